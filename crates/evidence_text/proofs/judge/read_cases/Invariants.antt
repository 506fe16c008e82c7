use Rattle.std.proofs.Common.{◌≡◌, ◌+◌, map, drop}
use Rattle.net_base.specs.Steps.{each_from}
use Rattle.evidence_text.specs.Spelled.{numbered_case}
use Rattle.json_values.proofs.ItemsRead.{with_front}
use Rattle.evidence_text.proofs.judge.read_cases.Given as goal

abbrev pub invariant-loop-case : goal.invariant-loop-case
invariant-loop-case l = with_front l.all.items (each_from (λ _. numbered_case) (l.case-index + 1) (map (λ x. x) (drop l.case-index l.raw))) ≡ each_from (λ _. numbered_case) 1 l.raw
