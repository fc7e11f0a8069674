-- Laws that the functions' proofs cite.
pub mod LineTaken
pub mod TablePlaces
pub mod Ends
pub mod Whole
