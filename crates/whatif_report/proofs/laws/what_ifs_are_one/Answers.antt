use Rattle.whatif_report.proofs.OneWhatIf.{what_ifs_are_one}
use Rattle.whatif_report.proofs.laws.what_ifs_are_one.Goals as goal

pub returns : goal.returns
returns c = what_ifs_are_one
