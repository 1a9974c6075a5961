-- The definitions of `farm_book`, by subject.
pub mod Kept
pub mod Calculated
pub mod Judging
pub mod Replies
pub mod Entering
