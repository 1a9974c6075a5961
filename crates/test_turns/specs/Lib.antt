-- The definitions of `test_turns`, by subject.
pub mod Passes
