-- What `explain` answers.
pub mod Explain
