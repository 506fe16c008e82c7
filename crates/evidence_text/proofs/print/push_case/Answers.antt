use Rattle.std.proofs.lemmas.Result.{on_ok_weaker}
use Rattle.evidence_text.proofs.Items.{case_pushed}
use Rattle.evidence_text.proofs.print.push_case.Goals as goal

pub returns-clause-text : goal.returns-clause-text
returns-clause-text c = on_ok_weaker c.push_ways.result (λ last. case_pushed c.args.case.now _ _ _ c.in_ok-push_places.ensures.text last) c.push_ways.ensures.text

pub returns-clause-rules : goal.returns-clause-rules
returns-clause-rules c = on_ok_weaker c.push_ways.result (λ short. c.in_ok-push_places.ensures.rules short) c.push_ways.ensures.rules
