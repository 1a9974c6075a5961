-- The lemmas of `farm`, by topic.
pub mod RunStatuses
