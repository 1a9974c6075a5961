-- The definitions of `shared_log`, by subject.
pub mod Callers
