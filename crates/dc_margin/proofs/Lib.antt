pub mod Told
pub mod Few
pub mod Gaps
pub mod Sources
pub mod Law
pub mod Greatest
pub mod LabelGaps
pub mod Verdicts
pub mod Placed
mod Walk
pub mod Row
