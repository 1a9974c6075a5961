-- The lemmas of `post_runs`, by topic.
pub mod Changing
