-- The definitions of `calendar_days`, by subject.
pub mod Calendar
pub mod DayTexts
pub mod Laws
