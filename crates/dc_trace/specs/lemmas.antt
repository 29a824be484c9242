-- Lemmas that crates above cite, one file a topic.
pub mod Stepping
pub mod Bringing
pub mod Numbering
