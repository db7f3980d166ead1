pub mod Words
pub mod Forms
pub mod Rows
pub mod Tables
