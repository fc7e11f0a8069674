-- Laws that belong to no one function.
pub mod Chains
pub mod Steps
pub mod Noting
pub mod Waiting
