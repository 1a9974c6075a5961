-- The definitions of `farm_readings`, by subject.
pub mod Limits
pub mod Readings
