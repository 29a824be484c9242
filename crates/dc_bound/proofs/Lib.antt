pub mod CyclicWalk
pub mod Lesser
pub mod Summed
pub mod Sliding
