-- The definitions of `farm_http`, by subject.
pub mod Limits
pub mod Members
pub mod Objects
pub mod Requests
pub mod Tickets
pub mod PageTexts
pub mod Bodies
