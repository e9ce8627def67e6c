pub mod Compared
pub mod Placed
pub mod Accepted
pub mod Sizes
