-- The lemmas of `day_balances`, by subject.
pub mod KindByKind
pub mod Moved
pub mod Totals
pub mod Points
pub mod Closed
pub mod Through
pub mod Order
pub mod Meaning
