mod Keeping
mod Tracing
