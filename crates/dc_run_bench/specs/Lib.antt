pub mod Bench
pub mod Marks
pub mod Texts
