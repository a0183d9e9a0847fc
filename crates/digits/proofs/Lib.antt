pub mod Spelling
pub mod Figures
