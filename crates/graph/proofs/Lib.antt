-- Laws that belong to no one function.
pub mod Flags
pub mod Cut
pub mod Texts
pub mod TextsPut
