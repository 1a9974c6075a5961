-- The lemmas of `farm_chain`, by topic.
pub mod Rounded
pub mod Squares
pub mod Shares
