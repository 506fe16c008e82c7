-- The graph where steps lead to the least nodes, and its runs.
use Rattle.std.proofs.Common.{◌≡◌, ℕ, ◌<◌, Bool, true, false, not, ◌==◌, List, [], ◌∷◌, length, map, sym, ap, ◌∙◌, subst, inl, inr, arith, eqb-true, eq-eqb}
use Rattle.std.specs.List.{IsDistinct}
use Rattle.std.proofs.lemmas.Bool.{and_parts, and_from, not-true, not_from_false, false_from_ne_true, false≢true}
use Rattle.net_base.specs.Network.{PlainNet, is_peer, linked}
use Rattle.graph_base.specs.Graphs.{PlainGraph}
use Rattle.graph_base.specs.Runs.{place_of, is_start, has_step}
use Rattle.graph_base.specs.Rules.{IsWellFormed, same_pair}
use Rattle.graph_base.specs.Walks.{IsEnteredFromBefore}
use Rattle.list_law.specs.Members.{IsIn}
use Rattle.list_law.proofs.Members.{IsIn-map, IsIn-map_parts}
use Rattle.list_law.proofs.Apart.{Apart-from_distinct, Apart-map, IsDistinct-from_apart}
use Rattle.graph_base.proofs.StartsAndSteps.{in_step, step_in}
use Rattle.graph_base.proofs.RunSteps.{IsInside, RunsTo}
use Rattle.graph_base.proofs.WellFormed.{one_start, one_step}
use Rattle.node_quotient.specs.Quotient.{AreLeast, is_least, led_to}
use Rattle.node_quotient.proofs.Least.{joined_steps, joined_sym, least_kept, least_le, least_same}

module _ (least : ℕ → ℕ) (g : PlainGraph) where
  pub step_led : (m n : ℕ) → has_step g m n ≡ true → has_step (led_to least g) m (least n) ≡ true
  step_led m n h = in_step (led_to least g) m (least n) (IsIn-map {A = ℕ × ℕ} (λ s. (s.0, least s.1)) g.steps (m, n) (step_in g m n h))

  pub step_from_led : (m j : ℕ) → has_step (led_to least g) m j ≡ true → (n : ℕ) × (has_step g m n ≡ true) × (j ≡ least n)
  step_from_led m j h =
      let p = IsIn-map_parts {A = ℕ × ℕ} (λ s. (s.0, least s.1)) g.steps (m, j) (step_in (led_to least g) m j h) in
      let from : p.0.0 ≡ m = ap (λ (r : ℕ × ℕ). r.0) p.2 in
      let to : j ≡ least p.0.1 = sym (ap (λ (r : ℕ × ℕ). r.1) p.2) in
      (p.0.1, in_step g m p.0.1 (subst (λ k. IsIn {A = ℕ × ℕ} g.steps (k, p.0.1)) from p.1), to)

  module _ (net : PlainNet) (origin : ℕ → Bool) (external : Bool) (inside : IsInside g) (formed : IsWellFormed net origin external g) (are : AreLeast g least) where
    place_least : (n : ℕ) → n < length g.nodes → place_of g (least n) ≡ place_of g n
    place_least n lt = (are.joined n lt).place

    -- a start is joined with no other node
    pub least_start : (n : ℕ) → is_start g n ≡ true → least n ≡ n
    least_start n start =
        let lt = inside.starts n start in
        let place : place_of g (least n) ≡ place_of g n = (are.joined n lt).place in
        let there : is_start g (least n) ≡ true = formed.alone (least n) (are.within n lt) (ap origin place ∙ formed.starts n start) in
        one_start net origin external g formed (least n) n there start place

    -- steps of one node to one location
    AreSame : PlainGraph → ℕ × ℕ → ℕ × ℕ → Type 0
    AreSame h s t = same_pair (s.0, place_of h s.1) (t.0, place_of h t.1) ≡ true

    led_steps_apart : IsDistinct same_pair (map (λ (s : ℕ × ℕ). (s.0, place_of (led_to least g) s.1)) (led_to least g).steps)
    unfolding AreSame
    led_steps_apart =
        IsDistinct-from_apart same_pair (λ (s : ℕ × ℕ). (s.0, place_of (led_to least g) s.1)) (map (λ (s : ℕ × ℕ). (s.0, least s.1)) g.steps)
        (Apart-map (AreSame g) (AreSame (led_to least g)) (λ (s : ℕ × ℕ). (s.0, least s.1)) g.steps
        (Apart-from_distinct same_pair (λ (s : ℕ × ℕ). (s.0, place_of g s.1)) g.steps formed.one_step)
        back)
      where
        back : (s t : ℕ × ℕ) → IsIn g.steps s → IsIn g.steps t → AreSame (led_to least g) (s.0, least s.1) (t.0, least t.1) → AreSame g s t
        back s t h k e =
            let ls = inside.steps s.0 s.1 (in_step g s.0 s.1 h) in
            let lt = inside.steps t.0 t.1 (in_step g t.0 t.1 k) in
            let parts = and_parts (s.0 == t.0) (place_of g (least s.1) == place_of g (least t.1)) e in
            and_from (s.0 == t.0) (place_of g s.1 == place_of g t.1) parts.0
            (eq-eqb _ _ (sym (place_least s.1 ls) ∙ eqb-true _ _ parts.1 ∙ place_least t.1 lt))

    pub led_formed : IsWellFormed net origin external (led_to least g)
    led_formed = record {
      starts = formed.starts;
      one_start = formed.one_start;
      alone = formed.alone;
      links = λ m j h.
          let p = step_from_led m j h in
          let lt = inside.steps m p.0 p.1 in
          let old = and_parts (linked net (place_of g m) (place_of g p.0)) (not (is_start g p.0)) (formed.links m p.0 p.1) in
          let place : place_of g j ≡ place_of g p.0 = ap (place_of g) p.2 ∙ place_least p.0 lt in
          and_from (linked net (place_of g m) (place_of g j)) (not (is_start g j)) (ap (linked net (place_of g m)) place ∙ old.0)
          (not_from_false (is_start g j) (false_from_ne_true (is_start g j) (λ start.
          let there : is_start g p.0 ≡ true = formed.alone p.0 lt (ap origin (sym place) ∙ formed.starts j start) in
          false≢true (sym (not-true (is_start g p.0) old.1) ∙ there))));
      one_step = led_steps_apart;
      from = λ m j h. let p = step_from_led m j h in formed.from m p.0 p.1;
      into = λ m j h.
          let both = and_parts (has_step (led_to least g) m j) (is_peer net (place_of g j)) h in
          let p = step_from_led m j both.0 in
          let place : place_of g j ≡ place_of g p.0 = ap (place_of g) p.2 ∙ place_least p.0 (inside.steps m p.0 p.1) in
          formed.into m p.0 (and_from (has_step g m p.0) (is_peer net (place_of g p.0)) p.1 (ap (is_peer net) (sym place) ∙ both.1));
      listeners = formed.listeners;
    }

    -- a run leads to the least of the nodes that are joined with its end
    pub run_led : (path : List ℕ) (n : ℕ) → RunsTo g path n → n < length g.nodes → RunsTo (led_to least g) path (least n)
    run_led [] n r lt = absurd r
    run_led (l ∷ []) n r lt =
        let is = least_start n r.0 in
        (ap (is_start g) is ∙ r.0, place_least n lt ∙ r.1)
    run_led (l ∷ k ∷ ls) n r lt =
        let lm = inside.sources r.0 n r.2 in
        let on = joined_steps g (one_step net origin external g formed) (least r.0) r.0 n (are.joined r.0 lm) r.2 in
        let la = inside.steps (least r.0) on.0 on.1 in
        let same : least on.0 ≡ least n = least_same g least are on.0 n la lt on.2 in
        (least r.0, run_led (k ∷ ls) r.0 r.1 lm, ap (has_step (led_to least g) (least r.0)) (sym same) ∙ step_led (least r.0) on.0 on.1, place_least n lt ∙ r.3)

    pub run_from_led : (path : List ℕ) (i : ℕ) → RunsTo (led_to least g) path i → (n : ℕ) × RunsTo g path n × (n < length g.nodes) × (least n ≡ i)
    run_from_led [] i r = absurd r
    run_from_led (l ∷ []) i r = (i, r, inside.starts i r.0, least_start i r.0)
    run_from_led (l ∷ k ∷ ls) i r =
        let before = run_from_led (k ∷ ls) r.0 r.1 in
        let p = step_from_led r.0 i r.2 in
        let here : has_step g (least before.0) p.0 ≡ true = ap (λ m. has_step g m p.0) before.3 ∙ p.1 in
        let on = joined_steps g (one_step net origin external g formed) before.0 (least before.0) p.0 (joined_sym g (least before.0) before.0 (are.joined before.0 before.2)) here in
        let lp = inside.steps r.0 p.0 p.1 in
        let la = inside.steps before.0 on.0 on.1 in
        (on.0, (before.0, before.1, on.1, on.2.place ∙ sym (place_least p.0 lp) ∙ ap (place_of g) (sym p.2) ∙ r.3), la, least_same g least are on.0 p.0 la lp on.2 ∙ sym p.2)

    -- each least node is entered from a least node with a lesser number
    pub led_entered : IsEnteredFromBefore g → (n : ℕ) → n < length g.nodes → is_least least n ≡ true → is_start g n ≡ false →
        (m : ℕ) × (m < n) × (has_step (led_to least g) m n ≡ true) × (is_least least m ≡ true)
    led_entered entered n lt kept late = elim (entered n lt) [
      | inl start ↦ absurd (false≢true (sym late ∙ start))
      | inr e ↦
          let lm = inside.sources e.0 n e.2 in
          let on = joined_steps g (one_step net origin external g formed) (least e.0) e.0 n (are.joined e.0 lm) e.2 in
          let la = inside.steps (least e.0) on.0 on.1 in
          let same : least on.0 ≡ n = least_same g least are on.0 n la lt on.2 ∙ eqb-true (least n) n kept in
          let le = least_le g least are e.0 lm in
          let less = e.1 in
          (least e.0, omega (arith, le, less), ap (has_step (led_to least g) (least e.0)) (sym same) ∙ step_led (least e.0) on.0 on.1, least_kept g least are e.0 lm)
    ]
