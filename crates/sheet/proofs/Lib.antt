-- Laws that the proofs of several functions cite, and what callers may count on (Standing).
pub mod Records
pub mod Scan
pub mod Counts
pub mod Parts
pub mod AllWalks
pub mod SheetRead
pub mod Standing
