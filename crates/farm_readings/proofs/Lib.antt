-- The lemmas of `farm_readings`, by topic.
pub mod Within
