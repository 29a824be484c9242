-- The rule of the claim counter, what workers report, the faults of a parallel check, and the pieces of a long window.
pub mod Drawing
pub mod Faults
pub mod Pieces
pub mod Reports
