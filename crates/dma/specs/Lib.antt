pub mod Fields
pub mod Answers
pub mod Registers
pub mod Report
pub mod Cycle
