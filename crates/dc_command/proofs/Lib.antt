pub mod Hyphen
pub mod Reading
pub mod Simple
pub mod Tied
