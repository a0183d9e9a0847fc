pub mod Below
pub mod Bytes
pub mod Cells
pub mod Told
