-- The definitions of `test_journals`, by subject.
pub mod Listing
