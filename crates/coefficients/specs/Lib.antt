pub mod Eccentricity
pub mod OneDay
pub mod HalfDay
