pub mod CodeCoranks
pub mod ExchangeIndices
pub mod Heights
pub mod Open
