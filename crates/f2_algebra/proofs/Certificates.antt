pub mod Verdict
pub mod VerdictParts
pub mod Span
pub mod Certificate
pub mod LogCertificate
pub mod CertificateRanks
