-- The lemmas of `farm_stock`, by topic.
pub mod Amounts
pub mod Indexes
pub mod Added
pub mod AddUp
pub mod Tanks
