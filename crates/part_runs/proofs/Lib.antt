pub mod Over
pub mod PartAt
