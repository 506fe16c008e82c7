use Rattle.std.proofs.Common.{◌≡◌, ℕ, ◌+◌, ◌<◌, ◌∙◌, List, Option, Err, ap, arith, drop, get_or, length, refl, sym, true, false}
use Rattle.std.proofs.lemmas.List.{drop_all}
use Rattle.json_values.proofs.ItemsRead.{drop_here}
use Rattle.config_base.specs.declared.route.Route.{Route}
use Rattle.table_reader.specs.declared.fault.TablesFault.TheVariants.{Holder}
use Rattle.table_reader.specs.Rules.{at_holders, begins_at}
use Rattle.table_reader.proofs.judge.begin_at_holders.Goals as goal

module _ (routes : List (Option Route)) (i : ℕ) (held : Option Route) (within : i < length routes) (is : held ≡ get_or routes i held) where
  begins : begins_at i held ≡ true → at_holders i (drop i routes) ≡ at_holders (i + 1) (drop (i + 1) routes)
  begins h = ap (at_holders i) (drop_here routes i held within is) ∙ rw h refl

  stops : begins_at i held ≡ false → at_holders i (drop i routes) ≡ Err (Holder (i + 1))
  stops h = ap (at_holders i) (drop_here routes i held within is) ∙ rw h refl

pub loop-i-preserved : goal.loop-i-preserved
loop-i-preserved c =
    let held = c.index-routes-i.result in
    sym (begins c.args.routes.now c.loop-i.i held c.loop-i-test.true c.index-routes-i.is (sym c.begins_at.ensures ∙ c.if-not-begins_at.false)) ∙ c.loop-i.invariant

pub returns-then-not-begins_at : goal.returns-then-not-begins_at
returns-then-not-begins_at c = λ _.
    let held = c.index-routes-i.result in
    sym c.loop-i.invariant ∙ stops c.args.routes.now c.loop-i.i held c.loop-i-test.true c.index-routes-i.is (sym c.begins_at.ensures ∙ c.if-not-begins_at.true)

pub returns : goal.returns
returns c = sym c.loop-i.invariant ∙ ap (at_holders c.loop-i.i) (drop_all c.loop-i.i c.args.routes.now (omega arith))
