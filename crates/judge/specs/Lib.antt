-- What the judge's code is measured by, besides the meaning of docs/RULES.md.
pub mod SlotTurn
pub mod InYard
