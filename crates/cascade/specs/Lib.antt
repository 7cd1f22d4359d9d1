pub mod Cascade
