-- The meaning of RULES, which is docs/RULES.md, in its order: a reader starts at the top and never needs a later file.
pub mod Words
pub mod Returned
pub mod Yard
pub mod Sheet
pub mod Plan
pub mod Conflict
pub mod Colour
pub mod Rounds
pub mod Answer
pub mod Judge
pub mod Lister
pub mod Book
pub mod Telephone
pub mod Legal
pub mod Blame
pub mod Merged
pub mod Results
