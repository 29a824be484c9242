-- The text of captures, and how it is read.
pub mod TimeText
pub mod CaptureText
pub mod CaptureFaults
pub mod Reading
pub mod Ahead
pub mod Guesses
