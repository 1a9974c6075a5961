-- The lemmas of `farm_site`, by topic.
pub mod TankParts
pub mod TankFacts
