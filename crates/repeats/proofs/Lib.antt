pub mod ChainLaws
pub mod BitLaws
pub mod FreshLaws
