-- What the slot's code is measured by for every input, besides the meaning of docs/RULES.md.
pub mod Place
pub mod SlotSenders
pub mod Move
