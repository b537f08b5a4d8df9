pub mod StateImages
