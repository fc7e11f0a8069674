-- Read BookFilled for what the pass over a plan leaves; the others carry it and the code.
pub mod OneList
pub mod Entries
pub mod Beginning
pub mod Passing
pub mod BookFilled
pub mod LayingOut
pub mod BookAnswered
