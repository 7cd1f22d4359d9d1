pub mod Decodes
pub mod Kept
pub mod Made
pub mod Ports
