pub mod Word
pub mod Tally
