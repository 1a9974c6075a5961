-- The facts of `test_http`, by topic.
pub mod Crossing
