-- The definitions of `farm_report`, by subject.
pub mod Figures
pub mod Issued
