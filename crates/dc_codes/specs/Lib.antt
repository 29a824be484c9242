-- The codes and words that the program prints.
pub mod Codes
