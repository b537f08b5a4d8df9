-- What only private functions and proofs speak of: what is kept while a table is made, while a certificate is checked,
-- and while one is read.
pub mod Ranks
pub mod Refined
pub mod CodeComponents
pub mod Left
pub mod Making
pub mod Checks
pub mod Cells
pub mod Reading
pub mod Questions
pub mod CodeCertificates
pub mod CodeTests
pub mod CodeText
