pub mod CodeCarried
