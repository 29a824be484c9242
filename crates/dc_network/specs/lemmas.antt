-- Lemmas that laws and crates above cite, one file a topic.
pub mod Choosing
pub mod Greatest
pub mod Tracing
pub mod Ways
