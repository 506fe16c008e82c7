use Rattle.std.proofs.Common.{◌≡◌, ℕ, ◌&&◌, ◌||◌, eqb, leb, sym, ap, ◌∙◌, get_or}
use Rattle.std.proofs.lemmas.Result.{on_ok_weaker}
use Rattle.graph_base.specs.Runs.{place_of}
use Rattle.graph_base.specs.Preferences.{number_in}
use Rattle.preference_check.specs.Rows.{has_upto}
use Rattle.preference_check.proofs.Offered.{number_read}
use Rattle.preference_check.proofs.loops.take_number.Goals as goal

pub returns : goal.returns
returns c =
    let g = c.args.graph.now in
    let numbers = c.args.numbers.now in
    let node = c.args.node in
    let old = c.args.least.now.least.items in
    let new = c.lower.new.self.least.items in
    let here : ((p n : ℕ) → has_upto new p n ≡ (has_upto old p n || (eqb c.number-at.result p && leb (get_or numbers node 0) n)))
    → (l v : ℕ) → has_upto new l v ≡ (has_upto old l v || (eqb (place_of g node) l && leb (number_in numbers node) v)) =
    λ lowered l v.
    lowered l v
    ∙ ap (λ p. has_upto old l v || (eqb p l && leb (get_or numbers node 0) v)) (c.number-at.ensures ∙ c.location.ensures)
    ∙ ap (λ n. has_upto old l v || (eqb (place_of g node) l && leb n v)) (sym (number_read numbers node)) in
    on_ok_weaker c.lower.result here c.lower.ensures
