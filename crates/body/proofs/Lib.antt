pub mod Floats
pub mod Sizes
pub mod Made
pub mod Back
pub mod Passes
