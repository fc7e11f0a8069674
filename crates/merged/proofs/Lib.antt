-- What the answer says, and that its limits hold.
pub mod MergedAnswer
pub mod MergedLimits
