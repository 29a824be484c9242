pub mod Cases
pub mod Draws
pub mod Joined
pub mod Known
pub mod Pieces
