-- The definitions of `line_posts`, by subject.
pub mod Limits
pub mod Submissions
pub mod Requests
pub mod Polls
pub mod Rounds
pub mod States
pub mod Runs
pub mod Laws
pub mod Steps
