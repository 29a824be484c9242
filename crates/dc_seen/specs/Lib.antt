-- What a text says that `observe` printed, and how it is read.
pub mod Numbers
pub mod Kinds
pub mod Rows
pub mod Said
pub mod Faults
pub mod Reading
-- lemmas that laws and crates above cite
pub mod lemmas
