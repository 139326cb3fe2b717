-- What the contracts of this crate and of the programs cite.
pub mod Lines
pub mod Kind
pub mod Output
pub mod Decoded
pub mod Fault
pub mod Puts
pub mod StreamError
pub mod Cuts
pub mod LineForms
pub mod Encoded
pub mod ToolError
