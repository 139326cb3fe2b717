-- What the contracts of the program, and the laws, cite.
pub mod Laws
pub mod Parts
pub mod Restores
pub mod RestoreError
