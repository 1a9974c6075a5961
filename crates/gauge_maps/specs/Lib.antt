-- The definitions of `gauge_maps`, by subject.
pub mod Limits
pub mod Maps
