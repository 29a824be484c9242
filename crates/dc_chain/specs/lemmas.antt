-- Lemmas that laws and crates above cite, one file a topic.
pub mod Carried
pub mod Fields
pub mod Spacing
pub mod Feeding
pub mod Tracing
pub mod Living
pub mod Lasting
