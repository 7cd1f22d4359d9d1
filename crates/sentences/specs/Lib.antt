pub mod Bytes
pub mod Facts
pub mod Which
