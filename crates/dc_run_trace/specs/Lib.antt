-- What `trace` writes: the text of a run, and its answer.
pub mod Lines
pub mod Answer
-- how the engine goes through a capture
pub mod Steps
pub mod Names
-- laws about it
pub mod Laws
