-- What the proofs share.
pub mod FoldLemmas
pub mod NumberLemmas
pub mod PushLemmas
