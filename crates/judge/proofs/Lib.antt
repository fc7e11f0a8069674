-- Laws that the proofs of the judge's functions cite, and what holds of the judging itself.
pub mod SlotTurn
pub mod Conserved
pub mod SlotBySlot
pub mod Judging
