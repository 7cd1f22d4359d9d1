pub mod Fields
pub mod Answers
pub mod Ranks
pub mod Words
pub mod Requests
pub mod Service
