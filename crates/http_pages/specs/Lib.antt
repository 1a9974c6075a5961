-- The definitions of `http_pages`, by subject.
pub mod Statuses
pub mod Pages
pub mod Messages
