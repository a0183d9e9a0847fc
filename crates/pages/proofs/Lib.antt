pub mod Back
pub mod Fronts
pub mod HeatBits
pub mod PagesBack
pub mod Sizes
