-- The lemmas of `shared_posts`, by topic.
pub mod Idle
pub mod Giving
pub mod Taking
pub mod Running
pub mod Ran
pub mod Passes
pub mod Crossing
