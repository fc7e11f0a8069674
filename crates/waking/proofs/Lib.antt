-- The proofs of this crate.
pub mod WakeWords
