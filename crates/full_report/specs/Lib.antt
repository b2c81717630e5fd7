pub mod Text
pub mod Reports
pub mod Findings
