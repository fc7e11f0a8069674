-- What the contracts of colouring cite besides the meaning.
pub mod Row
pub mod Waiting
