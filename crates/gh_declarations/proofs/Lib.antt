pub mod CaseSteps
pub mod Examples
pub mod FirstAnswer
pub mod InsideAt
pub mod Listed
pub mod NodesAt
pub mod PatternsAt
pub mod Steps
