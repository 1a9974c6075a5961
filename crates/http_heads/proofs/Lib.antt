-- The lemmas of `http_heads`, by topic.
pub mod Cuts
pub mod HeadLines
pub mod RequestLine
pub mod FieldParts
pub mod Growth
pub mod Values
pub mod Gathering
pub mod Digits
pub mod HeadLimits
pub mod OneAnswer
pub mod Staying
