-- The lemmas of this crate: counts at symbols, repeated keys, and equal texts in two tables.
pub mod AtSymbols
pub mod Repeats
pub mod SameText
