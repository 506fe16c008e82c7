use Rattle.std.proofs.Common.{◌-◌, drop, arith, sym, ◌∙◌, false, length-drop, Bool, ℕ}
use Rattle.net_base.specs.Network.{joins}
use Rattle.policy_base.specs.Meaning.{some_step}
use Rattle.policy_base.proofs.PlaceLemmas.{some_step-next, some_step_short}
use Rattle.list_law.proofs.Items.{pairs_next}
use Rattle.whatif_report.proofs.cut.goes_over_link.Goals as goal

pub loop-i-preserved : goal.loop-i-preserved
loop-i-preserved c =
    let p : ℕ → ℕ → Bool = λ a b. joins a b (c.args.one, c.args.other) in
    pairs_next (some_step p) p false (some_step-next p) c.args.path.now c.loop-i.i
    c.index-path-i.result c.index-path-i-in-loop-i.result (omega arith) (omega arith) c.index-path-i.is c.index-path-i-in-loop-i.is
    (sym c.joined.ensures ∙ c.if-joined.false) c.loop-i.invariant

pub returns : goal.returns
returns c = sym (c.loop-i.invariant ∙ some_step_short _ (drop (c.loop-i.i - 1) c.args.path.now) (grind (arith, length-drop)))
