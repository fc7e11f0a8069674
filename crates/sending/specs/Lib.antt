-- What the code here is measured by, besides the meaning of docs/RULES.md.
pub mod First
