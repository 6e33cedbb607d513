pub mod CauseLaws
pub mod FaultLaws
pub mod ReadLaws
pub mod StoredLaws
pub mod InjectedLaws
