pub mod Words
pub mod Digits
pub mod Times
pub mod Names
pub mod Titles
pub mod Strays
