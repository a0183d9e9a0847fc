pub mod Tied
pub mod Settled
pub mod Follows
pub mod Inside
