-- The lemmas of `test_journals`, by topic.
pub mod Counts
