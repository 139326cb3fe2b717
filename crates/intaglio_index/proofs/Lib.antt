-- What the proofs share.
mod Names
pub mod ChainLemmas
pub mod FilterLemmas
pub mod HeadLemmas
pub mod LinkLemmas
pub mod Remainders
pub mod SearchLemmas
pub mod WalkLemmas
pub mod Words
