use Rattle.std.proofs.Common.{ℕ, List, inl, inr, sym, subst}
use Rattle.run_base.specs.Said.{said}
use Rattle.route_map_text.specs.MapsSpelled.{Spells}
use Rattle.judging_jobs.proofs.MapJobLaws.{bytes_said}
use Rattle.judging_jobs.proofs.check_map.maps_compared.Goals as goal

-- src/check_map.rt:55:1
pub returns : goal.returns
returns c =
    let made = c.in_ok-wanted.ensures in
    let spells : Spells c.deref.result.now c.in_ok-wanted.wanted = subst (λ (t : List ℕ). Spells t c.in_ok-wanted.wanted) (sym c.deref.ensures.value) c.in_ok-wanted-2.ensures.spells in
    elim c.compared.ensures [
      | inl none ↦ inl none
      | inr both ↦ inr (bytes_said c.args.config.now c.in_ok-wanted.wanted c.args.bytes.now c.deref.result.now (said c.compared.result) made.0 made.1 spells both)
    ]
