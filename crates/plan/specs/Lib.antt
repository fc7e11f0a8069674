pub mod ColourTurn
pub mod TurnByTurn
pub mod Answered
