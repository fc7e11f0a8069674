pub mod SlotLength
pub mod Sentences
