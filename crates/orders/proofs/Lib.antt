pub mod Sound
pub mod Ones
