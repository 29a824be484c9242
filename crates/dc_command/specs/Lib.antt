-- What a command line may ask.
pub mod Asked
pub mod Inputs
pub mod Program
