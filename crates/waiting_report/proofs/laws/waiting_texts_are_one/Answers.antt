use Rattle.waiting_report.proofs.OneText.{one_waiting_text}
use Rattle.waiting_report.proofs.laws.waiting_texts_are_one.Goals as goal

pub returns : goal.returns
returns c = one_waiting_text
