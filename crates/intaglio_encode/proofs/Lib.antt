-- What the proofs share.
pub mod Accepted
pub mod Known
