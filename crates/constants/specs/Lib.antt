pub mod Error
pub mod Geometry
pub mod Given
pub mod Longitude
pub mod Build
