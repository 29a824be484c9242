pub mod Peaks
pub mod Rising
pub mod Margins
pub mod Lines
-- the lines of what the finder found
pub mod Found
-- lemmas that laws cite
pub mod lemmas
