-- Lemmas that laws and crates above cite, one file a topic.
pub mod TimedRuns
pub mod Arriving
pub mod Copying
pub mod Emitting
pub mod Claiming
pub mod Placing
pub mod Refusing
