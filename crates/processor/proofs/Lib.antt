pub mod Recast
pub mod SamePages
pub mod Obeyed
pub mod Commanding
pub mod Following
pub mod NotRefused
pub mod Sampling
pub mod Keeping
