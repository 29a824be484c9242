pub mod Best
pub mod Keeping
pub mod Worked
