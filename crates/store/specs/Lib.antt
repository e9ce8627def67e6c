pub mod Restore
pub mod Save
pub mod Kept
pub mod Examples
