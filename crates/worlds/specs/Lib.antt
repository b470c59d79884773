pub mod WideNumbers
pub mod NumberLists
pub mod WorldFaults
pub mod BoundedNumbers
pub mod RefutationFaults
pub mod ProtectFaults
pub mod Protection
