-- The definitions of `shared_posts`, by subject.
pub mod Callers
pub mod Running
pub mod Sides
