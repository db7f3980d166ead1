pub mod Results
pub mod Refusals
pub mod Scale
pub mod Lists
pub mod Readings
pub mod Bounds
