pub mod Records
mod Stored
