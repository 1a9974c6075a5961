-- The definitions of `site_tables`, by subject.
pub mod Tables
pub mod Strappings
