-- Laws that the proofs of these functions cite.
pub mod WaitsFor
pub mod ToGateway
pub mod FirstHeld
