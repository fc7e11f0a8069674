-- Laws that belong to no one function.
pub mod Appended
pub mod SaysItself
pub mod LineSaid
pub mod OneLineMore
pub mod ReadBack
pub mod OfSheet
pub mod EdgeSet
pub mod Drawn
