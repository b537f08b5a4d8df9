-- What private functions and proofs alone speak of.
pub mod Chunks
pub mod FreeList
pub mod Lends
