-- What the functions here answer.
pub mod Few
