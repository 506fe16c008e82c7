use Rattle.config_maker.proofs.CaseClasses.{case_lists}
use Rattle.config_maker.proofs.law.case_lists_are_classes.Goals as goal

pub returns : goal.returns
returns c = case_lists
