-- The lemmas of `site_keys`, by topic.
pub mod Arrays
pub mod Contents
pub mod PlacedFacts
pub mod Steps
pub mod Kept
pub mod ListMembers
