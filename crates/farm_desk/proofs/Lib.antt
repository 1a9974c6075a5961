-- The lemmas of `farm_desk`, by topic.
pub mod Fronts
pub mod Continuing
pub mod Made
pub mod Durable
pub mod Counting
pub mod Finishing
pub mod Asked
pub mod Crossing
