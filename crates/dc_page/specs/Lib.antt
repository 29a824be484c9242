-- Ticks as the page writes them.
pub mod Text
