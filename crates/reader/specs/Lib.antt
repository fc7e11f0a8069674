-- What the contracts of this crate cite beside the meaning of docs/RULES.md.
pub mod Noted
