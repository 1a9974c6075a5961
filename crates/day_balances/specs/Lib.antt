-- The definitions of `day_balances`, by subject.
pub mod Days
pub mod Balances
pub mod TankDays
