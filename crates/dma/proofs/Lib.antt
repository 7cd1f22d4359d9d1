pub mod Looks
pub mod Once
pub mod Plain
pub mod Ranks
pub mod Refusals
pub mod Units
