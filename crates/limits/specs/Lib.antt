-- What the limits are told in besides the meaning.
pub mod Sent
pub mod LineOfLevels
