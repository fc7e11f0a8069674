-- What the private functions' contracts cite.
pub mod Marks
pub mod Heard
