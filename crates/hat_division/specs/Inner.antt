-- What only private functions and proofs speak of: what is kept while a product or a quotient is made.
pub mod Products
pub mod StoredDegrees
pub mod Rows
