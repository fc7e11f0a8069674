-- Laws that belong to no one function.
pub mod PutWords
pub mod Unsaid
pub mod WordsLong
