-- Laws that the functions' proofs cite.
pub mod Tables
pub mod Hearing
