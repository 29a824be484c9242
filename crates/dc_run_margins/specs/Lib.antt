-- What `margins` writes: the lines of margins or their objects, and its answer.
pub mod Lines
pub mod Objects
pub mod Telling
pub mod Margins
pub mod Drift
