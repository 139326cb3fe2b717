-- What the proofs share.
pub mod Names
pub mod First
pub mod Issue
pub mod Room
pub mod Held
pub mod Groups
pub mod Each
pub mod Laws
pub mod OnResult
pub mod LookUps
pub mod InOrder
pub mod Growth
pub mod Bytes
pub mod Growths
pub mod Alike
