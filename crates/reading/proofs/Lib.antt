pub mod Reading
pub mod Facts
pub mod Walk
pub mod RoundTrip
pub mod Exact
pub mod Numbers
pub mod WriterCalls
