pub mod Reaches
pub mod Exact
