pub mod Chains
pub mod Machine
pub mod Model
pub mod Relation
pub mod Runs
pub mod Law
pub mod Through
pub mod RelationLemmas
