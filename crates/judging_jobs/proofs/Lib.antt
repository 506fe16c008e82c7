pub mod CheckLaws
pub mod Judging
pub mod AuditLaws
pub mod Audits
pub mod MigrateLaws
pub mod LintLaws
mod MapJobLaws
pub mod CheckMapLaws
pub mod ConfigMapLaws
pub mod RouteMapLaws
