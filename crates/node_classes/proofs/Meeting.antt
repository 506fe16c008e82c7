-- What happens to a pair that is taken: it goes, tells the first nodes apart, or is joined.
use Rattle.std.proofs.Common.{◌≡◌, ◌≢◌, ◌⊎◌, ℕ, zero, suc, ◌+◌, ◌*◌, ◌<◌, ◌≤◌, false, cond, List, [], ◌∷◌, ◌++◌, length, map, filter, find, Option, Some, None, option_map}
use Rattle.std.proofs.Common.{refl, sym, ap, ◌∙◌, subst, arith, inl, inr, eq-eqb, sum, take, get_or, append_assoc}
use Rattle.std.specs.Prelude.{◌==◌, is_some, min, max, option_and_then}
use Rattle.std.specs.List.{AllByRecursion}
use Rattle.std.proofs.lemmas.Bool.{cases_Bool, cases_lt, ne_eqb}
use Rattle.std.proofs.lemmas.List.{length-append}
use Rattle.list_law.proofs.Members.{AllByRecursion-from_IsIn}
use Rattle.node_classes.specs.declared.way.Way.{Way}
use Rattle.node_classes.specs.Classes.{AreApart}
use Rattle.node_classes.specs.Classes as tied
use Rattle.node_classes.specs.Forest.{parent, IsForest, leader}
use Rattle.node_classes.specs.Stages.{InPairs, targets, Related, Stage, AreWithin, work}
use Rattle.node_classes.specs.Ways.{Ascend, comes_from, next, follow, place_apart_of}
use Rattle.node_classes.proofs.Forests.{leader-is_root}
use Rattle.node_classes.proofs.Pairs.{at_place, next-own, in_back}
use Rattle.node_classes.proofs.Places.{AscendAt, filtered_ascend, one_steps, same_places}
use Rattle.node_classes.proofs.Stages.{joined, told_apart}

-- ---- the trees may be written otherwise

pub stage_same : (ways : List Way) (a b : ℕ) (old new : List ℕ) (todo : List (ℕ × ℕ)) → IsForest new → ((z : ℕ) → leader new z ≡ leader old z) → Stage ways a b old todo → Stage ways a b new todo
stage_same ways a b old new todo forest same stage = record {
  forest = forest;
  closed = λ x y e l. go (next ways x l) (next ways y l) (stage.closed x y (sym (same x) ∙ e ∙ same y) l);
  first = related a b stage.first;
  met = stage.met;
}
  where
    related : (u v : ℕ) → Related old todo u v → Related new todo u v
    related u v h f r = h f (record { trees = λ z. ap f (sym (same z)) ∙ r.trees z; pairs = r.pairs })

    go : (o p : Option ℕ) → tied.Tied (Related old todo) o p → tied.Tied (Related new todo) o p
    go None None h = tt
    go None (Some v) h = h
    go (Some u) None h = h
    go (Some u) (Some v) h = related u v h

-- ---- targets

-- the two steps that lead to a pair of targets
abbrev pub StepsTo : List Way → List Way → ℕ → ℕ → ℕ → Type 0
StepsTo vs ws u v l = (option_map (λ (w : Way). w.to) (find (at_place l) vs) ≡ Some u) × (option_map (λ (w : Way). w.to) (find (at_place l) ws) ≡ Some v)

target_steps : (vs ws : List Way) (k u v : ℕ) → AscendAt vs → AllByRecursion (λ (w : Way). k ≤ w.at) vs → map (λ (w : Way). w.at) vs ≡ map (λ (w : Way). w.at) ws →
    InPairs u v (targets vs ws) → (l : ℕ) × (k ≤ l) × StepsTo vs ws u v l
target_steps [] ws k u v up above same h = absurd h
target_steps (x ∷ vs) [] k u v up above same h = absurd h
target_steps (x ∷ vs) (y ∷ ws) k u v up above same (inl e) =
    let first : x.at ≡ y.at = cc in
    (x.at, above.0, (rw (eq-eqb x.at x.at refl) (ap Some (sym e.0)), rw (eq-eqb y.at x.at (sym first)) (ap Some (sym e.1))))
target_steps (x ∷ vs) (y ∷ ws) k u v up above same (inr h) =
    let first : x.at ≡ y.at = cc in
    let rest : map (λ (w : Way). w.at) vs ≡ map (λ (w : Way). w.at) ws = cc in
    let r = target_steps vs ws (suc x.at) u v up.1 up.0 rest h in
    let l = r.0 in
    let past : x.at < l = r.1 in
    let one : (x.at == l) ≡ false = ne_eqb x.at l (λ e. absurd (omega (arith, e, past))) in
    let two : (y.at == l) ≡ false = ne_eqb y.at l (λ e. absurd (omega (arith, e, past, first))) in
    (l, omega (arith, past, above.0), (rw one r.2.0, rw two r.2.1))

module _ (ways vs ws : List Way) (x y : ℕ) (order : Ascend ways) (of_x : vs ≡ filter (comes_from x) ways) (of_y : ws ≡ filter (comes_from y) ways) where
  -- targets of nodes that were met were met
  pub met_targets : (a b : ℕ) (path : List ℕ) → follow ways a path ≡ Some x → follow ways b path ≡ Some y → map (λ (w : Way). w.at) vs ≡ map (λ (w : Way). w.at) ws →
      (u v : ℕ) → InPairs u v (targets vs ws) → (path : List ℕ) × (follow ways a path ≡ Some u) × (follow ways b path ≡ Some v)
  met_targets a b path at_x at_y same u v h =
      let up : AscendAt vs = subst AscendAt (sym of_x) (filtered_ascend x ways order) in
      let r = target_steps vs ws 0 u v up (AllByRecursion-from_IsIn (λ (w : Way). 0 ≤ w.at) vs (λ w at. omega arith)) same h in
      let l = r.0 in
      let one : next ways x l ≡ Some u = next-own ways x l ∙ ap (λ zs. option_map (λ (w : Way). w.to) (find (at_place l) zs)) (sym of_x) ∙ r.2.0 in
      let two : next ways y l ≡ Some v = next-own ways y l ∙ ap (λ zs. option_map (λ (w : Way). w.to) (find (at_place l) zs)) (sym of_y) ∙ r.2.1 in
      (l ∷ path, ap (option_and_then (λ m. next ways m l)) at_x ∙ one, ap (option_and_then (λ m. next ways m l)) at_y ∙ two)

  -- a place that only one of them has tells the first nodes apart
  pub apart_by : (a b l : ℕ) (up : List ℕ) (rest : List (ℕ × ℕ)) → Stage ways a b up (rest ++ (x, y) ∷ []) → place_apart_of vs ws ≡ Some l → AreApart ways a b
  apart_by a b l up rest stage h =
      let met = stage.met x y (in_back x y rest ((x, y) ∷ []) (inl (refl, refl))) in
      told_apart ways a b x y l met.0 met.1 met.2 (one_steps ways vs ws x y l order of_x of_y h)

-- ---- two trees become one

pub joins_at : (ways vs ws : List Way) (a b x y one other : ℕ) (old mid new : List ℕ) (rest : List (ℕ × ℕ)) → Ascend ways → vs ≡ filter (comes_from x) ways → ws ≡ filter (comes_from y) ways →
    IsForest mid → ((z : ℕ) → leader mid z ≡ leader old z) → one ≡ leader old x → other ≡ leader old y → one ≢ other → IsForest new →
    ((z : ℕ) → leader new z ≡ cond (leader mid z == max one other) (min one other) (leader mid z)) → place_apart_of vs ws ≡ None →
    Stage ways a b old (rest ++ (x, y) ∷ []) → Stage ways a b new (rest ++ targets vs ws)
joins_at ways vs ws a b x y one other old mid new rest order of_x of_y forest same at_one at_other apart new_forest trees alike stage =
    let here = stage_same ways a b old mid (rest ++ (x, y) ∷ []) forest same stage in
    let met = stage.met x y (in_back x y rest ((x, y) ∷ []) (inl (refl, refl))) in
    let places = same_places vs ws alike in
    let x_tree : leader mid x ≡ one = same x ∙ sym at_one in
    let y_tree : leader mid y ≡ other = same y ∙ sym at_other in
    let ends : ((leader mid x ≡ min one other) × (leader mid y ≡ max one other)) ⊎ ((leader mid x ≡ max one other) × (leader mid y ≡ min one other)) =
    elim (cases_lt one other) [
      | inl lt ↦
          let low : min one other ≡ one = grind arith in
          let high : max one other ≡ other = grind arith in
          inl (x_tree ∙ sym low, y_tree ∙ sym high)
      | inr le ↦
          let low : min one other ≡ other = grind arith in
          let high : max one other ≡ one = grind arith in
          inr (x_tree ∙ sym high, y_tree ∙ sym low)
    ] in
    let differ : min one other ≢ max one other = λ e. elim (cases_lt one other) [
      | inl lt ↦
          let low : min one other ≡ one = grind arith in
          let high : max one other ≡ other = grind arith in
          apart (sym low ∙ e ∙ high)
      | inr le ↦
          let low : min one other ≡ other = grind arith in
          let high : max one other ≡ one = grind arith in
          apart (sym high ∙ sym e ∙ low)
    ] in
    joined ways a b mid new rest x y vs ws here new_forest (min one other) (max one other) trees differ ends of_x of_y places
    (met_targets ways vs ws x y order of_x of_y a b met.0 met.1 met.2 places)

-- ---- what waits stays within, and the work grows less

pub within_front : (count : ℕ) (rest : List (ℕ × ℕ)) (p : ℕ × ℕ) → AreWithin count (rest ++ p ∷ []) → AreWithin count rest × ((p.0 < count) × (p.1 < count))
within_front count [] p h = (tt, h.0)
within_front count (q ∷ rest) p h = let r = within_front count rest p h.1 in ((h.0, r.0), r.1)

pub within_append : (count : ℕ) (ps qs : List (ℕ × ℕ)) → AreWithin count ps → AreWithin count qs → AreWithin count (ps ++ qs)
within_append count [] qs a b = b
within_append count (p ∷ ps) qs a b = (a.0, within_append count ps qs a.1 b)

within_filtered : (count n : ℕ) (ways : List Way) → AllByRecursion (λ (w : Way). w.to < count) ways → AllByRecursion (λ (w : Way). w.to < count) (filter (comes_from n) ways)
within_filtered count n [] h = tt
within_filtered count n (w ∷ ws) h = elim (cases_Bool (w.from == n)) [
  | inl on ↦ rw on (h.0, within_filtered count n ws h.1)
  | inr off ↦ rw off (within_filtered count n ws h.1)
]

within_targets : (count : ℕ) (vs ws : List Way) → AllByRecursion (λ (w : Way). w.to < count) vs → AllByRecursion (λ (w : Way). w.to < count) ws → AreWithin count (targets vs ws)
within_targets count [] ws a b = tt
within_targets count (v ∷ vs) [] a b = tt
within_targets count (v ∷ vs) (w ∷ ws) a b = ((a.0, b.0), within_targets count vs ws a.1 b.1)

pub targets_within : (count x y : ℕ) (ways vs ws : List Way) → AllByRecursion (λ (w : Way). w.to < count) ways → vs ≡ filter (comes_from x) ways
    → ws ≡ filter (comes_from y) ways → AreWithin count (targets vs ws)
targets_within count x y ways vs ws all of_x of_y =
    within_targets count vs ws (subst (AllByRecursion (λ (w : Way). w.to < count)) (sym of_x) (within_filtered count x ways all))
    (subst (AllByRecursion (λ (w : Way). w.to < count)) (sym of_y) (within_filtered count y ways all))

length-targets : (vs ws : List Way) → length (targets vs ws) ≤ length vs
length-targets [] ws = omega arith
length-targets (v ∷ vs) [] = omega arith
length-targets (v ∷ vs) (w ∷ ws) = let h = length-targets vs ws in omega (arith, h)

length-filtered : (n : ℕ) (ways : List Way) → length (filter (comes_from n) ways) ≤ length ways
length-filtered n [] = omega arith
length-filtered n (w ∷ ws) = elim (cases_Bool (w.from == n)) [
  | inl on ↦ let h = length-filtered n ws in rw on (omega (arith, h))
  | inr off ↦ let h = length-filtered n ws in rw off (omega (arith, h))
]

pub work_joined : (ways vs ws : List Way) (x : ℕ) (old new : List ℕ) (rest : List (ℕ × ℕ)) (p : ℕ × ℕ) → sum new < sum old → vs ≡ filter (comes_from x) ways →
    work (length ways) new (rest ++ targets vs ws) < work (length ways) old (rest ++ p ∷ [])
work_joined ways vs ws x old new rest p lt of_x =
    let len = length-append rest (p ∷ []) in
    let more = length-append rest (targets vs ws) in
    let few = length-targets vs ws in
    let short : length vs ≤ length ways = subst (λ zs. length zs ≤ length ways) (sym of_x) (length-filtered x ways) in
    let product : sum new * suc (length ways) + suc (length ways) ≤ sum old * suc (length ways) = grind arith in
    omega (arith, len, more, few, short, product)

-- a root that was found is one
pub found_root : (mid old : List ℕ) (x one : ℕ) → IsForest mid → ((z : ℕ) → leader mid z ≡ leader old z) → one ≡ leader old x → parent mid one ≡ one
found_root mid old x one forest same at =
    let here : one ≡ leader mid x = at ∙ sym (same x) in
    ap (parent mid) here ∙ leader-is_root mid forest x ∙ sym here

pub no_place : (o : Option ℕ) → is_some o ≡ false → o ≡ None
no_place None h = refl
no_place (Some l) h = absurd cc

pub targets_next : (vs ws : List Way) (i : ℕ) (d : Way) → i < length vs → i < length ws →
    targets (take (suc i) vs) (take (suc i) ws) ≡ targets (take i vs) (take i ws) ++ ((get_or vs i d).to, (get_or ws i d).to) ∷ []
targets_next [] ws i d a b = absurd (omega (arith, a))
targets_next (v ∷ vs) [] i d a b = absurd (omega (arith, b))
targets_next (v ∷ vs) (w ∷ ws) zero d a b = refl
targets_next (v ∷ vs) (w ∷ ws) (suc i) d a b = ap (λ ps. (v.to, w.to) ∷ ps) (targets_next vs ws i d (omega (arith, a)) (omega (arith, b)))

-- one more pair of targets
pub targets_more : (vs ws : List Way) (todo all new : List (ℕ × ℕ)) (i : ℕ) (d : Way) → i < length vs → i < length ws → all ≡ todo ++ targets (take i vs) (take i ws) →
    new ≡ all ++ ((get_or vs i d).to, (get_or ws i d).to) ∷ [] → new ≡ todo ++ targets (take (i + 1) vs) (take (i + 1) ws)
targets_more vs ws todo all new i d a b before push =
    let next : i + 1 ≡ suc i = omega arith in
    push ∙ ap (λ ps. ps ++ ((get_or vs i d).to, (get_or ws i d).to) ∷ []) before
    ∙ append_assoc todo (targets (take i vs) (take i ws)) (((get_or vs i d).to, (get_or ws i d).to) ∷ [])
    ∙ ap (λ ps. todo ++ ps) (sym (targets_next vs ws i d a b)) ∙ ap (λ n. todo ++ targets (take n vs) (take n ws)) (sym next)

-- of two roots the lesser and the greater are roots, and lie within where both do
pub either_root : (up : List ℕ) (one other n : ℕ) → parent up one ≡ one → parent up other ≡ other → (n ≡ min one other) ⊎ (n ≡ max one other) → parent up n ≡ n
either_root up one other n a b h = elim (cases_lt one other) [
  | inl lt ↦
      let low : min one other ≡ one = grind arith in
      let high : max one other ≡ other = grind arith in
      elim h [ inl e ↦ at n one (e ∙ low) a | inr e ↦ at n other (e ∙ high) b ]
  | inr le ↦
      let low : min one other ≡ other = grind arith in
      let high : max one other ≡ one = grind arith in
      elim h [ inl e ↦ at n other (e ∙ low) b | inr e ↦ at n one (e ∙ high) a ]
]
  where
    at : (n k : ℕ) → n ≡ k → parent up k ≡ k → parent up n ≡ n
    at n k e r = ap (parent up) e ∙ r ∙ sym e

pub max_below : (one other n : ℕ) → one < n → other < n → max one other < n
max_below one other n a b = grind arith
