pub mod Line
pub mod Fits
pub mod Text
