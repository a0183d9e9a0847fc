pub mod Frame
pub mod Layout
