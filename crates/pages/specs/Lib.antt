pub mod Into
pub mod Heat
pub mod Pages
pub mod ReadBack
pub mod Worked
