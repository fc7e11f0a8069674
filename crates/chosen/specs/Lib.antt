pub mod TurnSlot
pub mod Kept
