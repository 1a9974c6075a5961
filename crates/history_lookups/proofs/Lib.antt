-- The lemmas of `history_lookups`, by topic.
pub mod Ranges
pub mod Givens
pub mod WrongWays
pub mod EntriesAt
pub mod Sides
pub mod Bounds
pub mod TicketPostings
pub mod LedgerSums
pub mod BooksBounded
pub mod SiteBooks
pub mod BooksTo
pub mod Closings
pub mod FoundBooks
pub mod HistoryStocks
pub mod TwoTanks
pub mod PostedBy
pub mod BooksPosted
