-- Laws that belong to no one function.
pub mod GraphLong
pub mod Made
