pub mod Records
pub mod States
