-- The lemmas of `farm_book`, by topic.
pub mod Entered
pub mod Entries
pub mod Figures
pub mod Keys
pub mod Replies
pub mod StockReplies
pub mod TablesRead
