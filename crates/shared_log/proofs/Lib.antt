-- The lemmas of `shared_log`, by topic.
pub mod Each
