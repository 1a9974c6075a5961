-- The definitions of `farm_ticket`, by subject.
pub mod Amounts
pub mod Tickets
pub mod Reversing
pub mod Line
