pub mod Texts
pub mod Headings
pub mod Messages
pub mod Lines
pub mod Months
pub mod Rows
