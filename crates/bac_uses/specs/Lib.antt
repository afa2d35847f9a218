pub mod Anywhere
pub mod Heating
pub mod Requested
pub mod TwoReads
