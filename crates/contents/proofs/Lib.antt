pub mod Le
pub mod Laid
pub mod Records
pub mod Found
pub mod Kept
pub mod Rebuilt
pub mod Examples
