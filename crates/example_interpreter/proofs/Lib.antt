-- The lemmas of this crate: names in nested scopes, and what the texts of tokens spell.
pub mod Shadowing
pub mod Spellings
