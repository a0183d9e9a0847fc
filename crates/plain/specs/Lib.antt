pub mod Frame
pub mod Held
