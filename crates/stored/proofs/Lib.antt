pub mod Stored
pub mod Pairs
pub mod Rows
pub mod Admits
pub mod Trips
pub mod Decodes
pub mod Lays
