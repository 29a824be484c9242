pub mod Windows
pub mod States
pub mod Standing
pub mod Steps
pub mod Lacking
pub mod Fresh
pub mod CoreSteps
pub mod FaultText
