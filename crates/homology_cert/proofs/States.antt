pub mod CertificateLemmas
pub mod StateTexts
