-- What the chooser's contract cites besides the meaning of docs/RULES.md.
pub mod Handed
