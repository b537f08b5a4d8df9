pub mod ReportLemmas
pub mod ChainLemmas
pub mod ClassLemmas
pub mod HatLemmas
pub mod ComponentLemmas
