-- Lemmas that functions and crates above cite, one file a topic.
pub mod Ages
pub mod Finding
pub mod Steps
