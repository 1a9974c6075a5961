-- The lemmas of `test_turns`, by topic.
pub mod Keeping
pub mod Crossing
