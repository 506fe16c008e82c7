-- The least node that is paired with one of another rank, pair by pair; and which pairs are met.
use Rattle.std.proofs.Common.{◌≡◌, ◌↔◌, ℕ, ◌+◌, ◌-◌, ◌<◌, List, [], ◌∷◌, ◌++◌, length, take, min, Option, Some, None, refl, sym, ap, ◌∙◌, subst, inl, inr, arith, slice_get}
use Rattle.std.specs.Prelude.{is_some, option_map}
use Rattle.std.proofs.lemmas.Bool.{cases_lt}
use Rattle.std.proofs.lemmas.List.{take_more}
use Rattle.std.proofs.lemmas.Option.{get_or_from_slice_get, same_Some, slice_get_within}
use Rattle.list_law.specs.Members.{IsIn}
use Rattle.list_law.proofs.Members.{IsIn-append_left, IsIn-push, IsIn-push_cases}
use Rattle.list_law.proofs.Options.{option_map_parts}
use Rattle.graph_base.specs.Graphs.{PlainGraph, IsGraph}
use Rattle.graph_base.specs.Runs.{rank_at, run}
use Rattle.graph_base.proofs.RunSteps.{run_inside}
use Rattle.reach_prune.proofs.Keeping.{rank_past}
use Rattle.node_classes.specs.declared.way.Way.{Way}
use Rattle.node_classes.specs.Meets.{AreMet}
use Rattle.node_classes.specs.Ways.{follow}
use Rattle.walk_check.specs.Alike.{IsSingleStepped}
use Rattle.walk_check.specs.Firsts.{IsFirstOrNone, IsMet}
use Rattle.walk_check.specs.PairRanks.{IsLeastUnlike, SameRank, lesser_of}
use Rattle.walk_check.specs.WaysOf.{both_sizes}
use Rattle.walk_check.proofs.Followed.{AreWaysOf, follow-run}

module _ (t g : PlainGraph) where
  least_same : (pairs : List (ℕ × ℕ)) (p : ℕ × ℕ) (o : Option ℕ) → IsLeastUnlike t g pairs o → SameRank t g p → IsLeastUnlike t g (pairs ++ p ∷ []) o
  least_same pairs p None h same = λ q at. elim (IsIn-push_cases pairs p q at) [ inl old ↦ h q old | inr e ↦ subst (SameRank t g) e same ]
  least_same pairs p (Some n) h same = (
    (h.0.0, IsIn-append_left pairs (p ∷ []) h.0.0 h.0.1, h.0.2, h.0.3),
    λ q at lt. elim (IsIn-push_cases pairs p q at) [ inl old ↦ h.1 q old lt | inr e ↦ subst (SameRank t g) e same ],
  )

  least_unlike : (pairs : List (ℕ × ℕ)) (p : ℕ × ℕ) (o : Option ℕ) → IsLeastUnlike t g pairs o → (SameRank t g p → ⊥) → IsLeastUnlike t g (pairs ++ p ∷ []) (Some (lesser_of o (p.1 - length t.nodes)))
  least_unlike pairs p None h other = (
    (p, IsIn-push pairs p, refl, other),
    λ q at lt. elim (IsIn-push_cases pairs p q at) [
      | inl old ↦ h q old
      | inr e ↦ let same = ap (λ (r : ℕ × ℕ). r.1 - length t.nodes) e in absurd (omega (arith, same, lt))
    ],
  )
  least_unlike pairs p (Some m) h other = (
    elim (cases_lt (p.1 - length t.nodes) m) [
      | inl lt ↦ let low : p.1 - length t.nodes ≡ min m (p.1 - length t.nodes) = grind arith in (p, IsIn-push pairs p, low, other)
      | inr le ↦ let low : m ≡ min m (p.1 - length t.nodes) = grind arith in (h.0.0, IsIn-append_left pairs (p ∷ []) h.0.0 h.0.1, h.0.2 ∙ low, h.0.3)
    ],
    λ q at lt. elim (IsIn-push_cases pairs p q at) [
      | inl old ↦ let below : q.1 - length t.nodes < m = grind arith in h.1 q old below
      | inr e ↦ let same = ap (λ (r : ℕ × ℕ). r.1 - length t.nodes) e in let below : q.1 - length t.nodes < p.1 - length t.nodes = grind arith in absurd (omega (arith, same, below))
    ],
  )

  next_pairs : (keys : List (ℕ × ℕ)) (i : ℕ) (p : ℕ × ℕ) → slice_get keys i ≡ Some p → take (i + 1) keys ≡ take i keys ++ p ∷ []
  next_pairs keys i p at = take_more keys i p (slice_get_within keys i p at) ∙ ap (λ q. take i keys ++ q ∷ []) (get_or_from_slice_get keys i p p at)

  pub least_next_same : (keys : List (ℕ × ℕ)) (i : ℕ) (p : ℕ × ℕ) (o : Option ℕ) → slice_get keys i ≡ Some p → IsLeastUnlike t g (take i keys) o
      → SameRank t g p → IsLeastUnlike t g (take (i + 1) keys) o
  least_next_same keys i p o at h same = subst (λ ps. IsLeastUnlike t g ps o) (sym (next_pairs keys i p at)) (least_same (take i keys) p o h same)

  pub least_next_unlike : (keys : List (ℕ × ℕ)) (i : ℕ) (p : ℕ × ℕ) (o : Option ℕ) → slice_get keys i ≡ Some p → IsLeastUnlike t g (take i keys) o → (SameRank t g p → ⊥)
      → IsLeastUnlike t g (take (i + 1) keys) (Some (lesser_of o (p.1 - length t.nodes)))
  least_next_unlike keys i p o at h other = subst (λ ps. IsLeastUnlike t g ps (Some (lesser_of o (p.1 - length t.nodes)))) (sym (next_pairs keys i p at)) (least_unlike (take i keys) p o h other)

-- ---- pairs that are met

module _ (t g : PlainGraph) (live_rules : IsGraph t) (rules : IsGraph g) (live_single : IsSingleStepped t) (single : IsSingleStepped g) (ways : List Way)
    (live_are : AreWaysOf ways t 0 (both_sizes t g)) (graph_are : AreWaysOf ways g (length t.nodes) (both_sizes t g + 1)) where
  live_run : (l : ℕ) (ls : List ℕ) → follow ways (both_sizes t g) (l ∷ ls) ≡ option_map (λ n. 0 + n) (run t (l ∷ ls))
  live_run = follow-run ways t 0 (both_sizes t g) live_rules live_single live_are

  graph_run : (l : ℕ) (ls : List ℕ) → follow ways (both_sizes t g + 1) (l ∷ ls) ≡ option_map (λ n. length t.nodes + n) (run g (l ∷ ls))
  graph_run = follow-run ways g (length t.nodes) (both_sizes t g + 1) rules single graph_are

  is_some-counted : (first : ℕ) (o : Option ℕ) → is_some (option_map (λ n. first + n) o) ≡ is_some o
  is_some-counted first None = refl
  is_some-counted first (Some n) = refl

  -- the same lists of places can be followed from both roots where the same paths have runs
  followed_alike : ((path : List ℕ) → is_some (run t path) ≡ is_some (run g path)) → (path : List ℕ) → is_some (follow ways (both_sizes t g) path) ≡ is_some (follow ways (both_sizes t g + 1) path)
  followed_alike alike [] = refl
  followed_alike alike (l ∷ ls) =
      ap is_some (live_run l ls) ∙ is_some-counted 0 (run t (l ∷ ls)) ∙ alike (l ∷ ls) ∙ sym (is_some-counted (length t.nodes) (run g (l ∷ ls))) ∙ sym (ap is_some (graph_run l ls))

  pub met_pair : (p n : ℕ) → IsMet t g p n → AreMet ways (both_sizes t g) (both_sizes t g + 1) p (length t.nodes + n)
  met_pair p n met = go met.0 met.1 met.2
    where
      go : (path : List ℕ) → run t path ≡ Some p → run g path ≡ Some n → AreMet ways (both_sizes t g) (both_sizes t g + 1) p (length t.nodes + n)
      go [] h k = absurd cc
      go (l ∷ ls) h k =
          let none : 0 + p ≡ p = omega arith in
          (l ∷ ls, live_run l ls ∙ ap (option_map (λ m. 0 + m)) h ∙ ap Some none, graph_run l ls ∙ ap (option_map (λ m. length t.nodes + m)) k)

  -- a pair of unlike ranks that is met is of nodes
  pub unlike_met : (x y : ℕ) → AreMet ways (both_sizes t g) (both_sizes t g + 1) x y → (SameRank t g (x, y) → ⊥) → (n : ℕ) × IsMet t g x n × (y ≡ length t.nodes + n)
  unlike_met x y met other = go met.0 met.1 met.2
    where
      go : (path : List ℕ) → follow ways (both_sizes t g) path ≡ Some x → follow ways (both_sizes t g + 1) path ≡ Some y → (n : ℕ) × IsMet t g x n × (y ≡ length t.nodes + n)
      go [] h k =
          let first : both_sizes t g ≡ x = same_Some (both_sizes t g) x h in
          let second : both_sizes t g + 1 ≡ y = same_Some (both_sizes t g + 1) y k in
          absurd (other (rank_past t x (omega (arith, first)) ∙ sym (rank_past g (y - length t.nodes) (omega (arith, second)))))
      go (l ∷ ls) h k =
          let p = option_map_parts (λ n. 0 + n) (run t (l ∷ ls)) x (sym (live_run l ls) ∙ h) in
          let n = option_map_parts (λ n. length t.nodes + n) (run g (l ∷ ls)) y (sym (graph_run l ls) ∙ k) in
          let at = p.2 in
          let here : p.0 ≡ x = omega (arith, at) in
          (n.0, (l ∷ ls, p.1 ∙ ap Some here, n.1), sym n.2)

  module _ (keys : List (ℕ × ℕ)) (sound : (x y : ℕ) → IsIn keys (x, y) → AreMet ways (both_sizes t g) (both_sizes t g + 1) x y)
      (all : (x y : ℕ) → AreMet ways (both_sizes t g) (both_sizes t g + 1) x y → IsIn keys (x, y)) where
    -- so the least node of an unlike pair is the first one that has not its rank
    first_of_keys : (o : Option ℕ) → IsLeastUnlike t g keys o → IsFirstOrNone (λ n. (p : ℕ) → IsMet t g p n → rank_at g n ≡ rank_at t p) (length g.nodes) o
    first_of_keys None h = λ n within p met.
        let node : length t.nodes + n - length t.nodes ≡ n = omega arith in
        sym (h (p, length t.nodes + n) (all p (length t.nodes + n) (met_pair p n met)) ∙ ap (rank_at g) node)
    first_of_keys (Some m) h =
        let at = unlike_met h.0.0.0 h.0.0.1 (sound h.0.0.0 h.0.0.1 h.0.1) h.0.3 in
        let end = at.2 in
        let least = h.0.2 in
        let same : h.0.0.1 - length t.nodes ≡ at.0 = omega (arith, end) in
        let node : at.0 ≡ m = sym same ∙ least in (
          subst (λ n. n < length g.nodes) node (run_inside g rules at.1.0 at.0 at.1.2),
          λ ranked. h.0.3 (sym (ranked h.0.0.0 (at.1.0, at.1.1, at.1.2 ∙ ap Some node)) ∙ ap (rank_at g) (sym least)),
          λ n lt p met.
              let here : length t.nodes + n - length t.nodes ≡ n = omega arith in
              sym (h.1 (p, length t.nodes + n) (all p (length t.nodes + n) (met_pair p n met)) (omega (arith, here, lt)) ∙ ap (rank_at g) here),
        )

  pub first_of_pairs : (also : List Way) (a b : ℕ) (keys : List (ℕ × ℕ)) (o : Option ℕ) → also ≡ ways → a ≡ both_sizes t g → b ≡ both_sizes t g + 1
      → ((x y : ℕ) → IsIn keys (x, y) ↔ AreMet also a b x y)
      → IsLeastUnlike t g keys o → IsFirstOrNone (λ n. (p : ℕ) → IsMet t g p n → rank_at g n ≡ rank_at t p) (length g.nodes) o
  first_of_pairs also a b keys o same at_a at_b are h =
      let here : (x y : ℕ) → IsIn keys (x, y) ↔ AreMet ways (both_sizes t g) (both_sizes t g + 1) x y
      = subst (λ n. (x y : ℕ) → IsIn keys (x, y) ↔ AreMet ways (both_sizes t g) n x y) at_b
      (subst (λ n. (x y : ℕ) → IsIn keys (x, y) ↔ AreMet ways n b x y) at_a (subst (λ ws. (x y : ℕ) → IsIn keys (x, y) ↔ AreMet ws a b x y) same are)) in
      first_of_keys keys (λ x y. (here x y).0) (λ x y. (here x y).1) o h

  pub followed_also : (also : List Way) (a b : ℕ) → also ≡ ways → a ≡ both_sizes t g → b ≡ both_sizes t g + 1 → ((path : List ℕ) → is_some (run t path) ≡ is_some (run g path))
      → (path : List ℕ) → is_some (follow also a path) ≡ is_some (follow also b path)
  followed_also also a b same at_a at_b alike path =
      (λ i. is_some (follow (same i) (at_a i) path)) ∙ followed_alike alike path ∙ sym (λ i. is_some (follow (same i) (at_b i) path))
