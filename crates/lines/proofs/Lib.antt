-- Laws that belong to no one function.
pub mod Putting
pub mod Decimal
pub mod Lined
pub mod SendersText
pub mod Fitting
pub mod OwnLine
pub mod PartsLong
pub mod Saying
