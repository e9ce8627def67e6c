pub mod Shape
pub mod Fields
pub mod Read
pub mod Examples
