-- The definitions of `farm_chain`, by subject.
pub mod Steps
pub mod Roofs
pub mod Volumes
pub mod Reading
