pub mod Obeyed
