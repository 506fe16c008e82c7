use Rattle.std.proofs.Common.{◌++◌, ◌∙◌, List, ℕ, ap}
use Rattle.std.proofs.lemmas.Result.{on_ok_weaker}
use Rattle.serde_json.specs.Written.{compact_text}
use Rattle.json_values.specs.Json.{numbers_data}
use Rattle.evidence_text.proofs.print.push_locations.Goals as goal

pub returns-clause-text : goal.returns-clause-text
returns-clause-text c =
    on_ok_weaker c.push_numbers.result
    (λ written. written ∙ ap (λ (ns : List ℕ). c.args.text.now.items ++ compact_text (numbers_data ns)) (c.deref.ensures.value ∙ c.in_ok-locations.ensures.items))
    c.push_numbers.ensures.text
