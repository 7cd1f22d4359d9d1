pub mod Arms
pub mod Lists
pub mod Runs
pub mod Words
