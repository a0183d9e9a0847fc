pub mod Heard
pub mod Opcodes
