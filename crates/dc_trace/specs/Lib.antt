-- The run that a capture makes, and what it keeps and brings.
pub mod Traces
pub mod Laws
-- lemmas that crates above cite
pub mod lemmas
