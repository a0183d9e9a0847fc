pub mod Ranges
pub mod Flags
pub mod Records
pub mod Slots
pub mod Codes
pub mod Conditions
