-- What the proofs share.
mod Names
pub mod Appended
pub mod LineCuts
pub mod ByLines
pub mod Numbers
pub mod Reading
pub mod Spellings
