-- What the contracts of this crate, and of the crates above it, cite.
pub mod Components
pub mod Path
pub mod PathContent
