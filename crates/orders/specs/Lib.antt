pub mod Decoded
pub mod Numbered
