pub mod GameIdLemmas
pub mod ParameterLemmas
