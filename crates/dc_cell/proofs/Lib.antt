pub mod Numbers
pub mod OneOff
pub mod Columns
