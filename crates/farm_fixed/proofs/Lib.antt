-- The lemmas of `farm_fixed`, by topic.
pub mod TextLaws
pub mod BadBytes
pub mod Parts
pub mod ParsingLaws
pub mod PrintingLaws
pub mod RoundTrip
pub mod Values
mod WholeLaws
mod DigitRuns
