pub mod Rounded
pub mod Value
pub mod Power
pub mod Root
pub mod Floor
pub mod Remainder
pub mod Trig
pub mod Atan
