-- Words of the contracts of private functions.
pub mod Copied
