use Rattle.std.proofs.Common.{◌≡◌, cond, None, option_map, ◌+◌, ◌++◌, ◌∷◌, [], length, length-append, sym, ap, ◌∙◌, subst, arith, inl, inr, ℕ, List, Option}
use Rattle.std.proofs.lemmas.Bool.{cases_lt}
use Rattle.net_base.specs.Sets.{holds}
use Rattle.graph_base.specs.Preferences.{number_in}
use Rattle.settled_graph.specs.Best.{entry_at, wanted_by}
use Rattle.settled_graph.proofs.Tables.{entry_next, entry_past, unwanted_past}
use Rattle.settled_graph.proofs.best.numbers_wanted.Goals as goal

pub loop-place-preserved : goal.loop-place-preserved
loop-place-preserved c =
    let items : c.push.new.self.items ≡ c.loop-place.wanted.items ++ c.number_wanted.result ∷ [] = c.in_ok-push.ensures.items in
    let wanted = λ (l : ℕ). wanted_by c.args.numbers.now c.args.choosers.now c.args.best.now l in
    let next : c.number_wanted.result ≡ wanted_by c.args.numbers.now c.args.choosers.now c.args.best.now c.loop-place.place =
    subst (λ (l : ℕ). c.number_wanted.result
    ≡ cond (holds c.args.choosers.now l) (option_map (number_in c.args.numbers.now) (entry_at c.args.best.now c.loop-place.place)) None)
    c.new-at.ensures c.number_wanted.ensures in
    record {
      size = ap length items ∙ length-append c.loop-place.wanted.items (c.number_wanted.result ∷ []) ∙ ap (λ n. n + 1) c.loop-place.invariant.size;
      numbers =
          λ i less. ap (λ (xs : List (Option ℕ)). entry_at xs i) items
          ∙ entry_next wanted c.loop-place.wanted.items c.number_wanted.result c.loop-place.place i c.loop-place.invariant.size
          c.loop-place.invariant.numbers next less;
    }

pub returns-clause-numbers : goal.returns-clause-numbers
returns-clause-numbers c = λ l.
    let past = c.loop-place-test.false in
    elim (cases_lt l c.loop-place.place) [
      | inl low ↦ c.loop-place.invariant.numbers l low
      | inr high ↦
          entry_past c.loop-place.wanted.items l (omega (arith, high, c.loop-place.invariant.size))
          ∙ sym (unwanted_past c.args.numbers.now c.args.choosers.now c.args.best.now l (omega (arith, high, past)))
    ]
