pub mod Refusal
pub mod Rates
pub mod State
pub mod Advance
pub mod Ask
