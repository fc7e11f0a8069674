-- What the contracts of functions over files cite.
pub mod Status
pub mod Name
