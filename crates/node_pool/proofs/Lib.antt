pub mod BlockLemmas
pub mod ChunkLemmas
pub mod FreeListLemmas
pub mod PoolCallLemmas
