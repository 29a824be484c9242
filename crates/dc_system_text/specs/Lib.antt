-- The text of a system: what it says, or its first fault.
pub mod Faults
pub mod System
-- lemmas that functions cite
pub mod lemmas
