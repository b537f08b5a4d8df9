-- The limits of certificates.
--     max_certified_size    the greatest size of a grid that has certificates
--     max_certificate       the greatest number of bytes of a text that is read as a certificate
use Rattle.std.specs.Prelude.{ℕ}

abbrev pub max_certified_size : ℕ
max_certified_size = 6

abbrev pub max_certificate : ℕ
max_certificate = 16777216
