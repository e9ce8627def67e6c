pub mod Floats
pub mod Body
pub mod Examine
pub mod Read
pub mod Back
