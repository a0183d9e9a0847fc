pub mod PartLine
