-- Laws that belong to no one function.
pub mod Chains
pub mod Taking
pub mod Free
pub mod Owners
pub mod FirstTaken
pub mod Writing
pub mod SlotWritten
