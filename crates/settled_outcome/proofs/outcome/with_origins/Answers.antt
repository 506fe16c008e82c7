use Rattle.std.proofs.Common.{◌≡◌, ◌≢◌, ℕ, ◌+◌, ◌<◌, ◌≤◌, true, false, refl, Vec, Global, List, length, Option, Some, None, set, get_or-set_other, get_or-set_same}
use Rattle.std.proofs.Common.{length-set, below_more, ap, sym, ◌∙◌, arith, rules}
use Rattle.std.specs.Prelude.{if◌then◌else◌, option_map}
use Rattle.net_base.specs.Sets.{holds}
use Rattle.config_base.specs.declared.route.Route.{Route}
use Rattle.settled_graph.specs.Best.{entry_at}
use Rattle.settled_outcome.specs.Outcomes.{held_by, started_route}
use Rattle.settled_outcome.proofs.outcome.with_origins.Goals as goal
use Rattle.settled_outcome.proofs.outcome.with_origins.Goals.{then-holds+in_ok-routes+in-Some-1, then-holds+in_ok-routes+in-None-1, else-holds}

module _ (routes next : List (Option Route)) (place : ℕ) (held others : ℕ → Option Route) (done : (r : ℕ) → r < place → entry_at routes r ≡ held r)
    (left : (r : ℕ) → place ≤ r → entry_at routes r ≡ others r) where
  -- an origin's route is put in
  written_done : (x : Option Route) → next ≡ set routes place x → place < length routes → x ≡ held place → (r : ℕ) → r < place + 1 → entry_at next r ≡ held r
  written_done x same within is = below_more (λ r. entry_at next r ≡ held r) place
      (λ r low. let other : r ≢ place = omega arith in ap (λ (xs : List (Option Route)). entry_at xs r) same ∙ get_or-set_other routes place r x None other ∙ done r low)
      (ap (λ (xs : List (Option Route)). entry_at xs place) same ∙ get_or-set_same routes place x None within ∙ is)

  written_left : (x : Option Route) → next ≡ set routes place x → (r : ℕ) → place + 1 ≤ r → entry_at next r ≡ others r
  written_left x same r high = let other : r ≢ place = omega arith in ap (λ (xs : List (Option Route)). entry_at xs r) same ∙ get_or-set_other routes place r x None other ∙ left r (omega arith)

  -- another router keeps its route
  kept_done : next ≡ routes → others place ≡ held place → (r : ℕ) → r < place + 1 → entry_at next r ≡ held r
  kept_done same is = below_more (λ r. entry_at next r ≡ held r) place
      (λ r low. ap (λ (xs : List (Option Route)). entry_at xs r) same ∙ done r low)
      (ap (λ (xs : List (Option Route)). entry_at xs place) same ∙ left place (omega arith) ∙ is)

  kept_left : next ≡ routes → (r : ℕ) → place + 1 ≤ r → entry_at next r ≡ others r
  kept_left same r high = ap (λ (xs : List (Option Route)). entry_at xs r) same ∙ left r (omega arith)

pub loop-place-preserved : goal.loop-place-preserved
loop-place-preserved c =
    let s = c.args.survivors.now in
    let origins = c.args.origins.now in
    let place = c.loop-place.place in
    let before = c.loop-place.invariant in
    let routes = c.loop-place.routes.items in
    let next = c.if-holds.routes.items in
    let others = entry_at c.args.others.items in
    let own = started_route (option_map (λ d. d.now) c.args.case) in
    let held = held_by s origins own others in
    let at : c.new-router.result ≡ place = search rules in
    let within : place < length routes = omega (arith, c.loop-place-test.true, ap length c.routers-place-end.ensures.routers, before.size) in
    elim c.if-holds.branch [
      | then-holds+in_ok-routes+in-Some-1 w ↦ (
          let x = w.in_ok-routes.field-0 in
          let same = ap (λ (v : Vec (Option Route) Global). v.items) w.routes-is in
          let on : holds origins place ≡ true = ap (holds origins) (sym at) ∙ sym c.holds.ensures ∙ w.if-holds.true in
          let is : x ≡ held place = w.in_ok-routes.ensures ∙ ap (λ k. if holds s.dead k then None else Some (own k)) at ∙ rw on refl in
          record {
            few = before.few;
            size = ap length same ∙ length-set routes place x ∙ before.size;
            done = written_done routes next place held others before.done before.left x same within is;
            left = written_left routes next place held others before.done before.left x same;
          })
      | then-holds+in_ok-routes+in-None-1 w ↦ (
          let x = w.in_ok-routes.field-0 in
          let same = ap (λ (v : Vec (Option Route) Global). v.items) w.routes-is in
          let on : holds origins place ≡ true = ap (holds origins) (sym at) ∙ sym c.holds.ensures ∙ w.if-holds.true in
          let is : x ≡ held place = w.in_ok-routes.ensures ∙ ap (λ k. if holds s.dead k then None else Some (own k)) at ∙ rw on refl in
          record {
            few = before.few;
            size = ap length same ∙ length-set routes place x ∙ before.size;
            done = written_done routes next place held others before.done before.left x same within is;
            left = written_left routes next place held others before.done before.left x same;
          })
      | else-holds w ↦ (
          let same = ap (λ (v : Vec (Option Route) Global). v.items) w.routes-is in
          let off : holds origins place ≡ false = ap (holds origins) (sym at) ∙ sym c.holds.ensures ∙ w.if-holds.false in
          let is : others place ≡ held place = rw off refl in
          record {
            few = before.few;
            size = ap length same ∙ before.size;
            done = kept_done routes next place held others before.done before.left same is;
            left = kept_left routes next place held others before.done before.left same;
          })
    ]
