pub mod Fault
pub mod Ticks
pub mod Rows
