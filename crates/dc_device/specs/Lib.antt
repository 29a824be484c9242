pub mod Bytes
pub mod Device
pub mod Lines
pub mod States
pub mod Whole
-- lemmas that laws and crates above cite
pub mod lemmas
