pub mod Exchanges
pub mod CodeImages
