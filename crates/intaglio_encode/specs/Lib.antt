-- What the contracts of the program cite.
pub mod Encodes
pub mod RunError
