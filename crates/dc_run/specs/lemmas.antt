-- Lemmas that crates above cite, one file a topic.
pub mod Numbers
pub mod Traces
