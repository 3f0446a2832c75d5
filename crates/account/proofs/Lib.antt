pub mod Spaces
pub mod Steps
pub mod Heads
pub mod Rowing
