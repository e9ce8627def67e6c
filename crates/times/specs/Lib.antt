pub mod Refusal
pub mod Time
