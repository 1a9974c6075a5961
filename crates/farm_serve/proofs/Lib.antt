-- The lemmas of `farm_serve`, by topic.
pub mod Standing
pub mod Closed
