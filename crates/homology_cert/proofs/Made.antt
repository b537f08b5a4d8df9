pub mod YesLemmas
pub mod SlicePairLemmas
pub mod StepCountLemmas
pub mod MadeLemmas
pub mod SizeLemmas
pub mod MakingLaws
pub mod MakingLemmas
