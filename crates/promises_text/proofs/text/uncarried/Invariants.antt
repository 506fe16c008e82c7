use Rattle.std.proofs.Common.{◌≡◌, ◌≤◌, take}
use Rattle.std.specs.List.{count_by}
use Rattle.policy_base.specs.Policies.{policy_of}
use Rattle.promises_text.specs.Texts.{is_uncarried}
use Rattle.promises_text.proofs.text.uncarried.Given as goal

abbrev pub invariant-loop-origin : goal.invariant-loop-origin
invariant-loop-origin l = (l.count ≡ count_by (is_uncarried (policy_of l.policy)) (take l.origin-index l.origins)) × (l.count ≤ l.origin-index)
