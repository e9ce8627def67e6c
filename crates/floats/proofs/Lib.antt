pub mod Powers
pub mod Patterns
pub mod Grid
pub mod Rounding
pub mod Values
pub mod Exact
pub mod Units
pub mod Ranges
