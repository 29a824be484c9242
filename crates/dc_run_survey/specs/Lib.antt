-- What `survey` writes: the lines of a survey, and its answer.
pub mod Lines
pub mod Answer
