pub mod Answer
pub mod Orbits
pub mod Store
