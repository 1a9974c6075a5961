-- The lemmas of `text_pieces`, by topic.
pub mod Lengths
pub mod QuantityTexts
