-- The lemmas of `book_texts`, by topic.
pub mod SummaryLaws
pub mod Appending
pub mod Reports
