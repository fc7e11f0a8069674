-- Laws that the proofs of the chooser's functions cite.
pub mod Choosing
