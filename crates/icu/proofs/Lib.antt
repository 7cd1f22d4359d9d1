pub mod Ranks
pub mod Turned
pub mod Int
pub mod Once
pub mod Command
pub mod Served
