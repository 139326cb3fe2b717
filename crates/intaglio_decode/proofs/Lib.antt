-- What the proofs share.
mod Names
mod AllLaws
pub mod Digits
mod FirstEqual
mod InOrder
pub mod Symbols
