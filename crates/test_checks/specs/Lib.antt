-- The definitions of `test_checks`, by subject.
pub mod Counting
