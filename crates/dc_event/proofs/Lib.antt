pub mod Queues
pub mod Sends
pub mod Steadiness
pub mod Firsts
pub mod Rows
pub mod TextRows
pub mod FieldLemmas
pub mod TraceAnswers
pub mod TraceSteps
pub mod TraceNext
mod HexValues
mod FoundNames
mod LongKeys
mod LinesAhead
