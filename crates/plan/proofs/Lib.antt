-- Laws that belong to no one function.
pub mod ColourTurn
pub mod TurnByTurn
pub mod Filling
pub mod SameOwners
pub mod Preparing
pub mod Answered
