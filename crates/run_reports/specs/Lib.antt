-- The definitions of `run_reports`, by subject.
pub mod Limits
pub mod Texts
pub mod Disks
pub mod Reports
pub mod NoDesks
pub mod DisksLeft
