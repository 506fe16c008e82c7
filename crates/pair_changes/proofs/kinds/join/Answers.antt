use Rattle.std.proofs.Common.{◌≡◌, ◌<◌, ◌∙◌, ℕ, Some, ap, arith, length, set, subst, sym}
use Rattle.std.specs.Prelude.{Option}
use Rattle.pair_changes.specs.declared.ways.Way.{Way}
use Rattle.pair_changes.specs.Kinds.{IsNumberOf}
use Rattle.pair_changes.proofs.KindNumbers.{joined_none, joined_some, number_kept, number_within, with_places}
use Rattle.pair_changes.proofs.kinds.join.Goals as goal

pub returns-in_default-clause-kinds : goal.returns-in_default-clause-kinds
returns-in_default-clause-kinds c = λ way_at done are is.
    let kinds = c.args.kinds.now.items in
    joined_none way_at done kinds c.args.place.now are (subst (λ (n : Option ℕ). IsNumberOf kinds (way_at c.args.place.now) n) c.in_default.is is)

pub index_mut-requires : goal.index_mut-requires
index_mut-requires c =
    let kinds = c.args.kinds.now.items in
    let within : c.in-Some.number < length kinds =
    number_within kinds c.requires.0 c.in-Some.number (subst (λ (n : Option ℕ). IsNumberOf kinds c.requires.0 n) c.in-Some.is c.requires.1) in
    omega (arith, within, c.args.kinds.now.ok.0)

pub returns-clause-kinds : goal.returns-clause-kinds
returns-clause-kinds c = λ way_at done are is.
    let kinds = c.args.kinds.now.items in
    joined_some way_at done kinds c.args.place.now c.in-Some.number c.index_mut.result.now c.push.new.self are
    (subst (λ (n : Option ℕ). IsNumberOf kinds (way_at c.args.place.now) n) c.in-Some.is is) c.index_mut.ensures.value c.in_ok-push.ensures.ok

pub returns-clause-number : goal.returns-clause-number
returns-clause-number c = λ way is.
    let kinds = c.args.kinds.now.items in
    subst (λ (n : Option ℕ). IsNumberOf (set kinds c.in-Some.number (with_places c.index_mut.result.now c.push.new.self)) way n) (sym c.in-Some.is)
    (number_kept kinds way c.in-Some.number c.index_mut.result.now c.push.new.self (subst (λ (n : Option ℕ). IsNumberOf kinds way n) c.in-Some.is is) c.index_mut.ensures.value)
