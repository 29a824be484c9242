pub mod CaptureAnswers
pub mod CaptureSteps
mod Decimals
mod FieldLemmas
mod LinesAhead
mod Naming
mod TextRows
