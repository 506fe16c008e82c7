use Rattle.std.proofs.Common.{refl}
use Rattle.scenario_reader.proofs.value_of.Goals as goal

pub returns-in-Ok : goal.returns-in-Ok
returns-in-Ok c = rw c.in-Ok.ensures.value refl

pub returns-in-Err-NotJson : goal.returns-in-Err-NotJson
returns-in-Err-NotJson c = λ _. rw (c.in-Err-NotJson.ensures.none (λ e. cc)) refl
