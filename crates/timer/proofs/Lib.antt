pub mod Laws
pub mod Looks
pub mod Pulses
pub mod Runs
