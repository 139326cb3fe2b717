-- What contracts say of every table.
pub mod State
pub mod Change
pub mod Lookup
pub mod Cost
pub mod Issue
pub mod Batch
pub mod Bytes
pub mod Step
pub mod Run
pub mod Growths
pub mod Alike
