-- The lemmas of `farm_listeners`, by topic.
pub mod Events
pub mod Steps
pub mod Talks
