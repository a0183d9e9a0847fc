pub mod Spelled
pub mod RunNames
