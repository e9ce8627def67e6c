pub mod Write
pub mod RoundTrip
