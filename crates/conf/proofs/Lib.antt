mod Among
mod LeastLaws
mod RowLaws
mod JudgedLaws
mod KeyLaws
mod AddedLaws
mod ListLaws
mod StepLaws
mod RowFacts
mod VersionLaws
mod TableLaws
mod SectionLaws
mod PolicyLaws
mod GatewayLaws
mod KeyTextLaws
mod TypeLaws
pub mod ConfLaws
pub mod CauseLaws
pub mod MeaningLaws
mod ReadLaws
pub mod EmptyLaws
pub mod AnswerLaws
