-- The lemmas of `farm_ports`, by topic.
pub mod Copies
pub mod LinkCalls
pub mod Parts
