pub mod Wiring
pub mod Operations
pub mod Advance
pub mod Step
pub mod Records
