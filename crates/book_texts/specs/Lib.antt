-- The definitions of `book_texts`, by subject.
pub mod Summaries
pub mod DayReports
