pub mod Costs
pub mod GrammarLaws
pub mod Laws
pub mod Service
pub mod ServiceLaws
pub mod Words
