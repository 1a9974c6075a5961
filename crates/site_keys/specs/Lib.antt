-- The definitions of `site_keys`, by subject.
pub mod Limits
pub mod Codes
pub mod Faults
pub mod Keys
pub mod Stored
pub mod Lists
pub mod Files
