pub mod ReadingLemmas
pub mod PrintingLemmas
pub mod Lexed
pub mod Lengths
pub mod RoundTrip
