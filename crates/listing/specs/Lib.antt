pub mod Letters
pub mod Text
pub mod Pages
pub mod Numbers
