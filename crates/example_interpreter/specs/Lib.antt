-- What the contracts of the lexer and of the bindings cite.
pub mod Names
pub mod Spelled
