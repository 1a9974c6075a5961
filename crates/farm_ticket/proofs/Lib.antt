-- The lemmas of `farm_ticket`, by topic.
pub mod Reversals
