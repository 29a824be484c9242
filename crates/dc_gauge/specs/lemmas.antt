-- Lemmas that crates above cite, one file a topic.
pub mod LeastJitter
pub mod OneMore
pub mod StreamSteps
pub mod WireSteps
