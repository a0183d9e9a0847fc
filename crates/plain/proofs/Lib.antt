pub mod Padded
pub mod Sampled
pub mod Begun
