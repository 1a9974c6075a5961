-- The lemmas of `farm_turn`, by topic.
pub mod Lists
pub mod Positions
pub mod Entries
pub mod Numbers
pub mod Keeps
pub mod Allowed
pub mod Opening
pub mod Seats
pub mod Closing
