-- The definitions of `journaled_book`, by subject.
pub mod Histories
pub mod Moments
pub mod Replies
pub mod Records
