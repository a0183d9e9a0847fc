pub mod Configured
pub mod Meaning
pub mod Same
pub mod Few
pub mod Rows
