-- Clocks, and entries by their ticks and by their times.
pub mod Spans
pub mod Laws
-- lemmas that laws and crates above cite
pub mod lemmas
