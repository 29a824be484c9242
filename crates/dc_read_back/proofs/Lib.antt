-- How what `observe` prints is read back.
pub mod Spaced
pub mod Printing
pub mod Saying
pub mod Telling
pub mod Back
pub mod Fielding
pub mod Numbering
pub mod Naming
pub mod Only
