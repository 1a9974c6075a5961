-- The lemmas of `modbus_frame`, by topic.
pub mod Words
pub mod Fields
pub mod FirstWrong
pub mod Due
pub mod Shapes
pub mod Fronts
pub mod Agreeing
pub mod Whole
pub mod Right
pub mod Meaning
pub mod Stays
