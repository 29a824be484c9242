pub mod Finding
pub mod Reports
pub mod Margins
