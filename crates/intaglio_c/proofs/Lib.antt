-- What the proofs share.
pub mod Names
pub mod AsBytes
pub mod Faults
pub mod Batches
pub mod Pieces
pub mod Walks
