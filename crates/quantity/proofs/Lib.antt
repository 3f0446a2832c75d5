pub mod Residues
pub mod GroupSums
pub mod MassSums
pub mod EightBytes
pub mod SheetForms
