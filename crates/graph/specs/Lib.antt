pub mod Part
pub mod Lines
pub mod Table
pub mod Reading
pub mod Drawing
