-- What the contracts of these programs cite.
pub mod Counts
pub mod Repeat
pub mod Texts
