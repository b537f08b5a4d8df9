pub mod ChainLines
mod PartLemmas
