pub mod Written
pub mod Faults
pub mod Keys
pub mod Reading
