pub mod Names
pub mod Document
pub mod Keys
pub mod Ticks
pub mod FaultText
-- lemmas that crates above cite
pub mod lemmas
