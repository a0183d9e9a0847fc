pub mod Fronts
pub mod Statuses
pub mod Listing
