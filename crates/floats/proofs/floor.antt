pub mod Whole
pub mod Greatest
