pub mod WordLemmas
pub mod ValueLemmas
pub mod FieldLemmas
pub mod ReadingLemmas
pub mod ScriptLemmas
