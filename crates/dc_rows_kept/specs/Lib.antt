-- When tables keep the rows of two sheets.
pub mod KeepsRows
-- The same as tests.
pub mod Tests
