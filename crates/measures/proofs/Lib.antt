pub mod Counts
pub mod Folds
pub mod Halves
pub mod Loops
pub mod Signs
pub mod Sizes
