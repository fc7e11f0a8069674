-- The proofs of this crate.
pub mod NotingBytes
pub mod BySlot
