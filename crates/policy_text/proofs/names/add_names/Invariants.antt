use Rattle.std.proofs.Common.{◌≡◌, ◌+◌, ◌++◌, drop}
use Rattle.policy_text.specs.PolicyText.{names_from}
use Rattle.policy_text.proofs.names.add_names.Given as goal

abbrev pub invariant-loop-site : goal.invariant-loop-site
invariant-loop-site l =
    (l.at ≡ l.first + l.site-index)
    × (l.names.items ++ names_from l.set l.at (drop l.site-index l.sites) ≡ l.initial.names.items ++ names_from l.set l.first l.sites)
