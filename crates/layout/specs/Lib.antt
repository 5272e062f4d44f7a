pub mod LayOut
pub mod HowLaidOut
pub mod RoundTrip
