-- What `report` answers.
pub mod Paper
