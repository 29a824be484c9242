pub mod Feeding
pub mod Enclosing
pub mod Advising
pub mod Finding
