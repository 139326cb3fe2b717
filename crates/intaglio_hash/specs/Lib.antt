-- What the contracts of this crate cite.
pub mod FixedState
pub mod KeyedState
pub mod Numbers
pub mod Push
