pub mod SameLaws
pub mod RepeatedLaws
pub mod FaultLaws
pub mod AnswerLaws
pub mod PrintLaws
pub mod SpanLaws
pub mod Judged
