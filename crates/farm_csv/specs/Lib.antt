-- The definitions of `farm_csv`, by subject.
pub mod Blanks
pub mod Records
pub mod Reader
pub mod Rows
