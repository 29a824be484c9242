mod Values
mod Stepped
mod Runs
