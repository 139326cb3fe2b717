-- What the contracts of this crate, and of the crates above it, cite.
pub mod CStr
pub mod CStrContent
pub mod Error
pub mod Zeros
