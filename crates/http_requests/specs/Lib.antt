-- The definitions of `http_requests`, by subject.
pub mod Limits
pub mod Routes
pub mod Paths
pub mod Asking
pub mod Hearing
