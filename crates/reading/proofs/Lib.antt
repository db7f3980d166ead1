pub mod Parts
pub mod Puts
