-- Laws that belong to no one function.
pub mod WhichLine
pub mod AnswersLong
