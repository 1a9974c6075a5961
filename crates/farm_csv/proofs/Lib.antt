-- The lemmas of `farm_csv`, by topic.
pub mod Ends
pub mod NextRecords
pub mod Lefts
pub mod MoreRows
pub mod FirstNoRow
