-- Laws that belong to no one function.
pub mod SlotSaid
pub mod Spoken
