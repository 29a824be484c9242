pub mod Format
pub mod Word
pub mod Bcd
pub mod Digits
