pub mod SlotsRead
pub mod LineByLine
pub mod Measured
pub mod Heading
pub mod Listed
