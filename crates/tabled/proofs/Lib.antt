-- Laws that belong to no one function.
pub mod TableLong
pub mod TextsSaid
