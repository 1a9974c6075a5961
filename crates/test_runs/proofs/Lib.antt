-- The facts of `test_runs`, by topic.
pub mod Crossing
