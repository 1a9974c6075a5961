-- The definitions of `desk_posts`, by subject.
pub mod Limits
pub mod Exchanges
pub mod Courses
pub mod Calls
pub mod Visits
pub mod Conversations
pub mod Laws
