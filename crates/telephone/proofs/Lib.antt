-- The telephone's answer. Read Limits for what is promised of it; Telephoned carries the code.
pub mod Telephoned
pub mod Limits
