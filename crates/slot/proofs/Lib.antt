-- Laws that the proofs of the slot's functions cite, and what their callers know of a slot.
pub mod Places
pub mod Looking
pub mod Pairs
pub mod Tests
pub mod Within
