pub mod Pushed
pub mod Spelling
pub mod Ascii
