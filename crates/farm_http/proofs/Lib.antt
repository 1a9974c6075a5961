-- The lemmas of `farm_http`, by topic.
pub mod ShortLists
pub mod Lines
pub mod Bodies
pub mod TicketTexts
