-- Lemmas that laws and crates above cite, one file a topic.
pub mod RunPush
pub mod BudgetsPush
pub mod RunMoves
pub mod OutputMoves
pub mod Beginnings
pub mod Arrivals
