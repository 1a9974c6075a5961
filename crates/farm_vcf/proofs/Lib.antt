-- The lemmas of `farm_vcf`, by topic.
pub mod Taking
pub mod Searching
pub mod Entries
pub mod Blocks
pub mod Breaks
pub mod ReadBack
pub mod Meanings
pub mod Fields
pub mod Texts
mod GrowingRows
