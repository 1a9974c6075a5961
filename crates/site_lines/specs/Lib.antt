-- The definitions of `site_lines`, by subject.
pub mod Limits
pub mod Fields
pub mod Gauges
pub mod Lines
