use Rattle.std.proofs.Common.{◌≡◌, ◌-◌, length, sym, ◌∙◌, rules}
use Rattle.std.specs.Prelude.{slice_get, Some}
use Rattle.policy_base.proofs.PlaceLemmas.{at_last_some}
use Rattle.policy_base.proofs.meaning.ends_in.Goals as goal

pub returns-in-Some : goal.returns-in-Some
returns-in-Some c =
    let last : slice_get c.args.path.now (length c.args.path.now - 1) ≡ Some c.in-Some.last.now = search rules in
    c.holds.ensures ∙ sym (at_last_some _ c.args.path.now c.in-Some.last.now last)
