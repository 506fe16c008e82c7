use Rattle.std.proofs.Common.{◌≡◌, ◌≤◌, ◌⊎◌, inl, inr, sym, ◌∙◌, refl, arith}
use Rattle.policy_base.specs.Policies.{ranking_of}
use Rattle.policy_base.specs.Meaning.{alternative_count}
use Rattle.policy_base.proofs.RankPlaces.{place_of-below}
use Rattle.policy_base.proofs.RankingViews.{alternative_count-Prefer, And_fits, first-Prefer, first-And, first-And_none}
use Rattle.policy_base.proofs.rank.+first_met.Goals as goal
use Rattle.policy_base.proofs.rank.+first_met.Goals.{then-alternatives-eq0-via-then-alternatives-eq0, then-alternatives-eq0-via-else-alternatives-eq0+then-alternatives-eq0-2}

pub place_in_row-requires-clause-second : goal.place_in_row-requires-clause-second
place_in_row-requires-clause-second t c =
    place_of-below c.args.net.now (ranking_of c.deref-in-Prefer-2.result.now) c.args.path.now 64
    (rw c.deref-in-Prefer-2.ensures (omega (arith, alternative_count-Prefer c.args.ranked.now c.in-Prefer.a c.in-Prefer.b c.in-Prefer.is))) c.first_met.result c.first_met.ensures

pub returns-then-alternatives-eq0 : goal.returns-then-alternatives-eq0
returns-then-alternatives-eq0 t c =
    let none : (alternative_count (ranking_of c.in-And.a.value) ≡ 0) ⊎ (alternative_count (ranking_of c.in-And.b.value) ≡ 0) =
    elim c.then-alternatives-eq0.branch [
      | then-alternatives-eq0-via-then-alternatives-eq0 w ↦ inl (let e = rw c.deref-in-And.ensures at c.alternatives-in-And.ensures in omega (arith, e, w.if-alternatives-eq0.true))
      | then-alternatives-eq0-via-else-alternatives-eq0+then-alternatives-eq0-2 w ↦
          inr (let e = rw w.deref-else-alternatives-eq0.ensures at w.alternatives-else-alternatives-eq0.ensures in omega (arith, e, w.if-alternatives-eq0-2.true))
    ] in
    first-And_none c.args.net.now c.args.ranked.now c.in-And.a c.in-And.b c.args.path.now c.in-And.is none

pub place_in_pairs-requires-clause-first : goal.place_in_pairs-requires-clause-first
place_in_pairs-requires-clause-first t c =
    let kept_a = rw c.deref-in-And.ensures at c.alternatives-in-And.ensures in
    let kept_b = rw c.deref-else-alternatives-eq0.ensures at c.alternatives-else-alternatives-eq0.ensures in
    let fits = And_fits c.args.ranked.now c.in-And.a c.in-And.b c.in-And.is c.requires _ _ kept_a kept_b c.if-alternatives-eq0.false c.if-alternatives-eq0-2.false in
    place_of-below c.args.net.now (ranking_of c.deref-in-And-2.result.now) c.args.path.now 64 (rw c.deref-in-And-2.ensures fits.0) c.first_met-first-in-And.result c.first_met-first-in-And.ensures

pub place_in_pairs-requires-clause-second : goal.place_in_pairs-requires-clause-second
place_in_pairs-requires-clause-second t c =
    let kept_a = rw c.deref-in-And.ensures at c.alternatives-in-And.ensures in
    let kept_b = rw c.deref-else-alternatives-eq0.ensures at c.alternatives-else-alternatives-eq0.ensures in
    let fits = And_fits c.args.ranked.now c.in-And.a c.in-And.b c.in-And.is c.requires _ _ kept_a kept_b c.if-alternatives-eq0.false c.if-alternatives-eq0-2.false in
    place_of-below c.args.net.now (ranking_of c.deref-in-And-3.result.now) c.args.path.now 64 (rw c.deref-in-And-3.ensures fits.1) c.first_met-second.result c.first_met-second.ensures

pub returns-in-Prefer : goal.returns-in-Prefer
returns-in-Prefer t c =
    let first = rw c.deref.ensures at c.first_met-first.ensures in
    let second = rw c.deref-in-Prefer-2.ensures at c.first_met.ensures in
    let few : alternative_count (ranking_of c.in-Prefer.a.value) ≤ 64 =
    omega (arith, alternative_count-Prefer c.args.ranked.now c.in-Prefer.a c.in-Prefer.b c.in-Prefer.is) in
    let kept = rw c.deref-in-Prefer.ensures at c.alternatives.ensures in
    let before : c.alternatives.result ≡ alternative_count (ranking_of c.in-Prefer.a.value) = omega (arith, kept, few) in
    c.place_in_row.ensures ∙ rw (first, second, before) refl
    ∙ sym (first-Prefer c.args.net.now c.args.ranked.now c.in-Prefer.a c.in-Prefer.b c.args.path.now c.in-Prefer.is)

pub returns-else-alternatives-eq0-2 : goal.returns-else-alternatives-eq0-2
returns-else-alternatives-eq0-2 t c =
    let kept_a = rw c.deref-in-And.ensures at c.alternatives-in-And.ensures in
    let kept_b = rw c.deref-else-alternatives-eq0.ensures at c.alternatives-else-alternatives-eq0.ensures in
    let fits = And_fits c.args.ranked.now c.in-And.a c.in-And.b c.in-And.is c.requires _ _ kept_a kept_b c.if-alternatives-eq0.false c.if-alternatives-eq0-2.false in
    let first = rw c.deref-in-And-2.ensures at c.first_met-first-in-And.ensures in
    let second = rw c.deref-in-And-3.ensures at c.first_met-second.ensures in
    let kept = rw c.deref-in-And-4.ensures at c.alternatives-in-And-2.ensures in
    let width : c.alternatives-in-And-2.result ≡ alternative_count (ranking_of c.in-And.b.value) = omega (arith, kept, fits.1) in
    c.place_in_pairs.ensures ∙ rw (first, second, width) refl
    ∙ sym (first-And c.args.net.now c.args.ranked.now c.in-And.a c.in-And.b c.args.path.now c.in-And.is)
