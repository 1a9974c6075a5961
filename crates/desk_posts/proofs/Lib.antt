-- The lemmas of `desk_posts`, by subject.
pub mod Longer
pub mod Following
pub mod Takings
pub mod Rooms
pub mod Refusals
pub mod Answering
pub mod Acts
pub mod Seeing
pub mod Connections
pub mod Meeting
pub mod Standing
pub mod Conversing
