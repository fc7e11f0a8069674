pub mod Arranged
pub mod WrittenFrom
