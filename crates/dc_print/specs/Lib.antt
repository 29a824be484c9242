-- The lines that the commands print.
pub mod Text
pub mod Verdicts
pub mod Words
