-- Laws that belong to no one function.
pub mod LineWords
pub mod Scans
pub mod Words
