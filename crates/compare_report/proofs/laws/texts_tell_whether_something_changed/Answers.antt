use Rattle.text_parts.proofs.Words.{number_cut}
use Rattle.compare_report.proofs.Unchanged.{told_where_unchanged, unchanged_where_told}
use Rattle.compare_report.proofs.laws.texts_tell_whether_something_changed.Goals as goal

pub returns-clause-told : goal.returns-clause-told
returns-clause-told c = unchanged_where_told number_cut

pub returns-clause-untold : goal.returns-clause-untold
returns-clause-untold c = told_where_unchanged
