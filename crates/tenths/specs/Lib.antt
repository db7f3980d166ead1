pub mod Tenth
pub mod Tenfold
