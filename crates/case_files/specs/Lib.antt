-- The definitions of `case_files`, by subject.
pub mod Digits
pub mod Texts
