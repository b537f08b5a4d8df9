pub mod Tables
pub mod ParityLemmas
pub mod Sets
pub mod Cardinality
pub mod Sums
pub mod Lists
