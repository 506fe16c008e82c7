use Rattle.std.proofs.Common.{◌≡◌, ◌-◌, drop}
use Rattle.net_base.specs.Network.{joins}
use Rattle.policy_base.specs.Meaning.{some_step}
use Rattle.whatif_report.proofs.cut.goes_over_link.Given as goal

abbrev pub invariant-loop-i : goal.invariant-loop-i
invariant-loop-i l = some_step (λ a b. joins a b (l.one, l.other)) l.path ≡ some_step (λ a b. joins a b (l.one, l.other)) (drop (l.i - 1) l.path)
