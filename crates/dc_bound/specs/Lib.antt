-- ---- the words of time, counts and queues
pub mod Window
pub mod Run
pub mod Places
pub mod Moves
-- ---- the words of the bounds
pub mod Tags
pub mod Rounds
pub mod Turns
pub mod Frame
pub mod Splits
pub mod Early
pub mod Capping
pub mod Under
pub mod Terms
-- lemmas that laws and crates above cite
pub mod lemmas
