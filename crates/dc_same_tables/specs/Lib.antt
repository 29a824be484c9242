-- Lists that are paired.
pub mod Pairs
