pub mod Model
pub mod Class
pub mod Propagator
