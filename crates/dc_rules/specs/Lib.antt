pub mod Rules
pub mod Obeys
pub mod Passed
pub mod Declarations
pub mod Visits
pub mod lemmas
