-- Cells, one for each two nodes at one location.
use Rattle.std.proofs.Common.{◌≡◌, ℕ, zero, suc, ◌+◌, ◌<◌, ◌≤◌, Bool, true, false, cond, not, ◌&&◌, ◌||◌, eqb, ltb, List, [], ◌∷◌, ◌++◌, length, get_or, set, take, arith}
use Rattle.std.proofs.Common.{refl, sym, ap, ◌∙◌, inl, inr, ◌⊎◌}
use Rattle.std.proofs.lemmas.Bool.{lt-ltb, le-ltb, and_right, cases_Bool, cases_eq, cases_lt, cases_order, cond-true, cond-false, eq-eqb, eqb-true, ne_eqb, and_from, and_left, and_parts, or_right}
use Rattle.std.proofs.lemmas.List.Folds.{list_any_at}
use Rattle.std.proofs.lemmas.List.{get_or_append_left, get_or_at, get_or-set_same, get_or-set_other}
use Rattle.graph_base.specs.Graphs.{PlainGraph}
use Rattle.graph_base.specs.Runs.{place_of}
use Rattle.reach_prune.specs.Searches.{is_among}
use Rattle.relation_law.specs.Numbers.{count_below}
use Rattle.relation_law.specs.Relations.{Pair}
use Rattle.relation_refute.specs.declared.cells.Cells.{Cells}
use Rattle.relation_refute.specs.Cells.{AreCells, cell_at, marked_round, room_at, spot_of}
use Rattle.state_simulation.specs.Looked.{shown}
use Rattle.state_simulation.proofs.Masking.{among_more}

-- ---- counts

count_next : (n : ℕ) (p : ℕ → Bool) → count_below (n + 1) p ≡ cond (p n) 1 0 + count_below n p
count_next n p = let up : n + 1 ≡ suc n = omega arith in ap (λ k. count_below k p) up

count_step : (n : ℕ) (p : ℕ → Bool) → p n ≡ true → count_below (n + 1) p ≡ count_below n p + 1
count_step n p e = let one : ◌≡◌ {A = ℕ} (cond (p n) 1 0) 1 = ap (λ z. cond z 1 0) e in omega (arith, one, count_next n p)

count_still : (n : ℕ) (p : ℕ → Bool) → p n ≡ false → count_below (n + 1) p ≡ count_below n p
count_still n p e = let none : ◌≡◌ {A = ℕ} (cond (p n) 1 0) 0 = ap (λ z. cond z 1 0) e in omega (arith, none, count_next n p)

count_less : (m n : ℕ) (p : ℕ → Bool) → m < n → p m ≡ true → count_below m p < count_below n p
count_less m zero p lt e = absurd (omega (arith, lt))
count_less m (suc n) p lt e = elim (cases_lt m n) [
  | inl t ↦ (
      let less = count_less m n p t e in
      let is : count_below (suc n) p ≡ cond (p n) 1 0 + count_below n p = refl in
      omega (arith, less, is))
  | inr t ↦ (
      let same : m ≡ n = omega (arith, lt, t) in
      let one : ◌≡◌ {A = ℕ} (cond (p n) 1 0) 1 = ap (λ z. cond z 1 0) (ap p (sym same) ∙ e) in
      let is : count_below (suc n) p ≡ cond (p n) 1 0 + count_below n p = refl in
      let at : count_below m p ≡ count_below n p = ap (λ k. count_below k p) same in
      omega (arith, one, is, at))
]

-- ---- spots

pub spots_more : (place : ℕ → ℕ) (spots new : List ℕ) (node count : ℕ) → length spots ≡ node → new ≡ spots ++ count ∷ [] → count ≡ count_below node (λ k. eqb (place k) (place node)) →
    ((m : ℕ) → m < node → get_or spots m 0 ≡ count_below m (λ k. eqb (place k) (place m))) → (m : ℕ) → m < node + 1 → get_or new m 0 ≡ count_below m (λ k. eqb (place k) (place m))
spots_more place spots new node count len is here before m lt = ap (λ l. get_or l m 0) is ∙ elim (cases_lt m node) [
  | inl t ↦ get_or_append_left spots (count ∷ []) 0 m (omega (arith, t, len)) ∙ before m t
  | inr t ↦ (let same : node ≡ m = omega (arith, lt, t) in get_or_at spots count [] 0 m (len ∙ same) ∙ here ∙ ap (λ k. count_below k (λ j. eqb (place j) (place k))) same)
]

pub counts_more : (place : ℕ → ℕ) (counts : List ℕ) (node at count : ℕ) → at ≡ place node → at < length counts → count ≡ get_or counts at 0
    → ((k : ℕ) → k < length counts → get_or counts k 0 ≡ count_below node (λ n. eqb (place n) k)) →
    (k : ℕ) → k < length counts → get_or (set counts at (count + 1)) k 0 ≡ count_below (node + 1) (λ n. eqb (place n) k)
counts_more place counts node at count is lt read before k lk = elim (cases_eq k at) [
  | inl e ↦ (
      let was : count ≡ count_below node (λ n. eqb (place n) k) = read ∙ ap (λ j. get_or counts j 0) (sym e) ∙ before k lk in
      ap (λ j. get_or (set counts at (count + 1)) j 0) e ∙ get_or-set_same counts at (count + 1) 0 lt ∙ ap (λ z. z + 1) was
      ∙ sym (count_step node (λ n. eqb (place n) k) (eq-eqb _ _ (sym is ∙ sym e))))
  | inr ne ↦ get_or-set_other counts at k (count + 1) 0 ne ∙ before k lk ∙ sym (count_still node (λ n. eqb (place n) k) (ne_eqb _ _ (λ e. ne (sym (is ∙ e)))))
]

-- ---- blocks

pub rooms_more : (room : ℕ → ℕ) (bases new : List ℕ) (node end next : ℕ) → length bases ≡ node → new ≡ bases ++ end ∷ [] → next ≡ end + room node
    → ((n : ℕ) → n < node → get_or bases n 0 + room n ≤ end) →
    (n : ℕ) → n < node + 1 → get_or new n 0 + room n ≤ next
rooms_more room bases new node end next len is step before n lt = elim (cases_lt n node) [
  | inl t ↦ (
      let same : get_or new n 0 ≡ get_or bases n 0 = ap (λ l. get_or l n 0) is ∙ get_or_append_left bases (end ∷ []) 0 n (omega (arith, t, len)) in
      let was = before n t in
      omega (arith, same, was, step))
  | inr t ↦ (
      let here : node ≡ n = omega (arith, lt, t) in
      let same : get_or new n 0 ≡ end = ap (λ l. get_or l n 0) is ∙ get_or_at bases end [] 0 n (len ∙ here) in
      let rooms : room node ≡ room n = ap room here in
      omega (arith, same, rooms, step))
]

pub blocks_more : (room : ℕ → ℕ) (bases new : List ℕ) (node end : ℕ) → length bases ≡ node → new ≡ bases ++ end ∷ []
    → ((n : ℕ) → n < node → get_or bases n 0 + room n ≤ end) → ((a b : ℕ) → a < b → b < node → get_or bases a 0 + room a ≤ get_or bases b 0) →
    (a b : ℕ) → a < b → b < node + 1 → get_or new a 0 + room a ≤ get_or new b 0
blocks_more room bases new node end len is rooms before a b less lt =
    let first : get_or new a 0 ≡ get_or bases a 0 = ap (λ l. get_or l a 0) is ∙ get_or_append_left bases (end ∷ []) 0 a (omega (arith, less, lt, len)) in
    elim (cases_lt b node) [
      | inl t ↦ (
          let same : get_or new b 0 ≡ get_or bases b 0 = ap (λ l. get_or l b 0) is ∙ get_or_append_left bases (end ∷ []) 0 b (omega (arith, t, len)) in
          let was = before a b less t in
          omega (arith, first, same, was))
      | inr t ↦ (
          let here : node ≡ b = omega (arith, lt, t) in
          let same : get_or new b 0 ≡ end = ap (λ l. get_or l b 0) is ∙ get_or_at bases end [] 0 b (len ∙ here) in
          let was = rooms a (omega (arith, less, here)) in
          omega (arith, first, same, was))
    ]

module _ (g : PlainGraph) (c : Cells) (end : ℕ) (spots : (m : ℕ) → m < length g.nodes → get_or c.spots.items m 0 ≡ spot_of g m)
    (rooms : (n : ℕ) → n < length g.nodes → get_or c.bases.items n 0 + room_at g (place_of g n) ≤ end)
    (blocks : (a b : ℕ) → a < b → b < length g.nodes → get_or c.bases.items a 0 + room_at g (place_of g a) ≤ get_or c.bases.items b 0) where
  roomy : (m n : ℕ) → Pair (shown g) m n → get_or c.spots.items m 0 < room_at g (place_of g n)
  roomy m n pair =
      let is = spots m pair.left in
      let less = count_less m (length g.nodes) (λ k. eqb (place_of g k) (place_of g m)) pair.left (eq-eqb _ _ refl) in
      let same : room_at g (place_of g m) ≡ room_at g (place_of g n) = ap (room_at g) pair.place in
      omega (arith, is, less, same)

  -- of two nodes at one location the lesser one has the lesser spot
  ascend : (m a : ℕ) → m < a → a < length g.nodes → place_of g m ≡ place_of g a → get_or c.spots.items m 0 < get_or c.spots.items a 0
  ascend m a less la place =
      let one = spots m (omega (arith, less, la)) in
      let other = spots a la in
      let up = count_less m a (λ k. eqb (place_of g k) (place_of g m)) less (eq-eqb _ _ refl) in
      let same : count_below a (λ k. eqb (place_of g k) (place_of g m)) ≡ spot_of g a = ap (λ l. count_below a (λ k. eqb (place_of g k) l)) place in
      omega (arith, one, other, up, same)

  pub one_cell : (m n a b : ℕ) → Pair (shown g) m n → Pair (shown g) a b → cell_at c m n ≡ cell_at c a b → (m ≡ a) × (n ≡ b)
  one_cell m n a b p q e = elim (cases_order n b) [
    | inl same ↦ (
        let bases : get_or c.bases.items n 0 ≡ get_or c.bases.items b 0 = ap (λ k. get_or c.bases.items k 0) same in
        let place : place_of g m ≡ place_of g a = p.place ∙ ap (place_of g) same ∙ sym q.place in
        elim (cases_order m a) [
          | inl is ↦ (is, same)
          | inr o ↦ elim o [
            | inl less ↦ absurd (let up = ascend m a less q.left place in omega (arith, e, bases, up))
            | inr more ↦ absurd (let up = ascend a m more p.left (sym place) in omega (arith, e, bases, up))
          ]
        ])
    | inr o ↦ elim o [
      | inl less ↦ absurd (let up = blocks n b less q.right in let in_room = roomy m n p in omega (arith, e, up, in_room))
      | inr more ↦ absurd (let up = blocks b n more p.right in let in_room = roomy a b q in omega (arith, e, up, in_room))
    ]
  ]

  pub cell_within : (m n : ℕ) → Pair (shown g) m n → cell_at c m n < end
  cell_within m n p = let in_room = roomy m n p in let up = rooms n p.right in omega (arith, in_room, up)

-- ---- a round is noted

marked_twice : (b : Bool) (o : ℕ) (l : Bool) (r : ℕ) → marked_round (cond b (marked_round o l r) o) l r ≡ marked_round o l r
marked_twice false o l r = refl
marked_twice true o l r = elim (cases_Bool (eqb o 0 && not l)) [
  | inl e ↦ (
      let is : marked_round o l r ≡ r = cond-true (eqb o 0 && not l) r o e in
      ap (λ z. marked_round z l r) is ∙ elim (cases_Bool (eqb r 0 && not l)) [
        | inl f ↦ cond-true (eqb r 0 && not l) r r f ∙ sym is
        | inr f ↦ cond-false (eqb r 0 && not l) r r f ∙ sym is
      ])
  | inr e ↦ (
      let is : marked_round o l r ≡ o = cond-false (eqb o 0 && not l) r o e in
      ap (λ z. marked_round z l r) is)
]

-- a test that passes beside none but this one
either_same : (e a x : Bool) → (e && x) ≡ false → (e && a) ≡ (e && (a || x))
either_same true true x h = refl
either_same true false x h = sym h
either_same false a x h = refl

either_way : (b : Bool) (x y : ℕ) → x ≡ y → cond b x y ≡ y
either_way true x y e = e
either_way false x y e = refl

module _ (g : PlainGraph) (c : Cells) (are : AreCells g c) (init now nodes : List ℕ) (i n round value : ℕ) (left : ℕ → ℕ → Bool) (lt : i < length nodes) where
  abbrev Old : ℕ → ℕ → ℕ
  Old m k = get_or init (cell_at c m k) 0

  abbrev Marked : ℕ → ℕ → ℕ
  Marked m k = marked_round (Old m k) (left k m) round

  pub row_more : Pair (shown g) (get_or nodes i 0) n → length now ≡ length c.rounds.items → value ≡ marked_round (get_or now (cell_at c (get_or nodes i 0) n) 0) (left n (get_or nodes i 0)) round →
      ((m k : ℕ) → Pair (shown g) m k → get_or now (cell_at c m k) 0 ≡ cond (eqb k n && is_among (take i nodes) m) (Marked m k) (Old m k)) →
      (m k : ℕ) → Pair (shown g) m k → get_or (set now (cell_at c (get_or nodes i 0) n) value) (cell_at c m k) 0 ≡ cond (eqb k n && is_among (take (i + 1) nodes) m) (Marked m k) (Old m k)
  row_more pair len is before m k p =
      let s : ℕ = get_or nodes i 0 in
      elim (cases_eq (cell_at c m k) (cell_at c s n)) [
        | inl e ↦ (
            let both = are.apart m k s n p pair e in
            let inside : cell_at c s n < length now = (let within = are.within s n pair in omega (arith, within, len)) in
            let hit : (eqb k n && is_among (take (i + 1) nodes) m) ≡ true = and_from _ _ (eq-eqb k n both.1) (among_more nodes i m lt ∙ or_right _ _ (eq-eqb m s both.0)) in
            ap (λ z. get_or (set now (cell_at c s n) value) z 0) e ∙ get_or-set_same now (cell_at c s n) value 0 inside ∙ is
            ∙ ap (λ z. marked_round z (left n s) round) (before s n pair) ∙ marked_twice (eqb n n && is_among (take i nodes) s) (Old s n) (left n s) round
            ∙ ap (λ z. Marked z n) (sym both.0) ∙ ap (Marked m) (sym both.1) ∙ sym (cond-true _ (Marked m k) (Old m k) hit))
        | inr ne ↦ (
            let other : (eqb k n && eqb m s) ≡ false = elim (cases_Bool (eqb k n && eqb m s)) [
              | inl e ↦ absurd (let both = and_parts (eqb k n) (eqb m s) e in ne (ap (λ z. cell_at c z k) (eqb-true m s both.1) ∙ ap (cell_at c s) (eqb-true k n both.0)))
              | inr e ↦ e
            ] in
            get_or-set_other now (cell_at c s n) (cell_at c m k) value 0 ne ∙ before m k p
            ∙ ap (λ z. cond z (Marked m k) (Old m k)) (either_same (eqb k n) (is_among (take i nodes) m) (eqb m s) other ∙ ap (λ z. eqb k n && z) (sym (among_more nodes i m lt))))
      ]

  pub row_kept : left n (get_or nodes i 0) ≡ true →
      ((m k : ℕ) → Pair (shown g) m k → get_or now (cell_at c m k) 0 ≡ cond (eqb k n && is_among (take i nodes) m) (Marked m k) (Old m k)) →
      (m k : ℕ) → Pair (shown g) m k → get_or now (cell_at c m k) 0 ≡ cond (eqb k n && is_among (take (i + 1) nodes) m) (Marked m k) (Old m k)
  row_kept is before m k p =
      let s : ℕ = get_or nodes i 0 in
      before m k p ∙ elim (cases_Bool (eqb k n && eqb m s)) [
        | inl e ↦ (
            let both = and_parts (eqb k n) (eqb m s) e in
            let there : left k m ≡ true = ap (λ z. left z m) (eqb-true k n both.0) ∙ ap (left n) (eqb-true m s both.1) ∙ is in
            let stays : Marked m k ≡ Old m k = cond-false (eqb (Old m k) 0 && not (left k m)) round (Old m k) (and_right (eqb (Old m k) 0) (not (left k m)) (ap not there)) in
            either_way (eqb k n && is_among (take i nodes) m) (Marked m k) (Old m k) stays ∙ sym (either_way (eqb k n && is_among (take (i + 1) nodes) m) (Marked m k) (Old m k) stays))
        | inr e ↦ ap (λ z. cond z (Marked m k) (Old m k)) (either_same (eqb k n) (is_among (take i nodes) m) (eqb m s) e ∙ ap (λ z. eqb k n && z) (sym (among_more nodes i m lt)))
      ]

-- a node that is listed and the one at whose location
pub pair_at : (g : PlainGraph) (nodes : List ℕ) (i n : ℕ) → i < length nodes → n < length g.nodes → get_or nodes i 0 < length g.nodes
    → ((m : ℕ) → m < length g.nodes → is_among nodes m ≡ eqb (place_of g m) (place_of g n)) → Pair (shown g) (get_or nodes i 0) n
pair_at g nodes i n lt ln ls members =
    let s : ℕ = get_or nodes i 0 in
    record { left = ls; right = ln; place = eqb-true _ _ (sym (members s ls) ∙ list_any_at (λ x. eqb x s) nodes i 0 lt (eq-eqb s s refl)) }

-- where only rounds have changed
pub same_cell : (c new : Cells) → new.spots.items ≡ c.spots.items → new.bases.items ≡ c.bases.items → (m n : ℕ) → cell_at new m n ≡ cell_at c m n
same_cell c new spots bases m n = ap (λ l. get_or l m 0 + get_or new.bases.items n 0) spots ∙ ap (λ l. get_or c.spots.items m 0 + get_or l n 0) bases

pub cells_kept : (g : PlainGraph) (c new : Cells) → AreCells g c → new.spots.items ≡ c.spots.items → new.bases.items ≡ c.bases.items → length new.rounds.items ≡ length c.rounds.items → AreCells g new
cells_kept g c new are spots bases len =
    let at : (m n : ℕ) → cell_at new m n ≡ cell_at c m n = same_cell c new spots bases in
    record {
      spots = ap length spots ∙ are.spots;
      bases = ap length bases ∙ are.bases;
      within = λ m n p. (let was = are.within m n p in let same = at m n in omega (arith, was, same, len));
      apart = λ m n a b p q e. are.apart m n a b p q (sym (at m n) ∙ e ∙ at a b);
    }

-- ---- rows that are noted one after another

module _ (t : ℕ → Bool) (k n now old new : ℕ) (l : Bool) (r : ℕ) (before : now ≡ cond (ltb k n && t k) (marked_round old l r) old) where
  other : (k < n) ⊎ (n < k) → ltb k (n + 1) ≡ ltb k n
  other (inl less) = lt-ltb _ _ (omega (arith, less)) ∙ sym (lt-ltb _ _ less)
  other (inr more) = le-ltb _ _ (omega (arith, more)) ∙ sym (le-ltb _ _ (omega (arith, more)))

  below_more : t n ≡ false → (ltb k (n + 1) && t k) ≡ (ltb k n && t k)
  below_more none = elim (cases_order k n) [
    | inl e ↦ and_right (ltb k (n + 1)) (t k) (ap t e ∙ none) ∙ sym (and_right (ltb k n) (t k) (ap t e ∙ none))
    | inr o ↦ ap (λ z. z && t k) (other o)
  ]

  pub noted_same : t n ≡ false → new ≡ now → new ≡ cond (ltb k (n + 1) && t k) (marked_round old l r) old
  noted_same none is = is ∙ before ∙ ap (λ z. cond z (marked_round old l r) old) (sym (below_more none))

  pub noted_more : t n ≡ true → new ≡ cond (eqb k n) (marked_round now l r) now → new ≡ cond (ltb k (n + 1) && t k) (marked_round old l r) old
  noted_more some is = elim (cases_order k n) [
    | inl e ↦ (
        let none : ltb k n ≡ false = le-ltb k n (omega (arith, e)) in
        let was : now ≡ old = before ∙ cond-false (ltb k n && t k) (marked_round old l r) old (and_left (ltb k n) (t k) none) in
        let up : ltb k (n + 1) ≡ true = lt-ltb k (n + 1) (omega (arith, e)) in
        let now_in : (ltb k (n + 1) && t k) ≡ true = and_from (ltb k (n + 1)) (t k) up (ap t e ∙ some) in
        is ∙ cond-true (eqb k n) (marked_round now l r) now (eq-eqb k n e) ∙ ap (λ z. marked_round z l r) was ∙ sym (cond-true (ltb k (n + 1) && t k) (marked_round old l r) old now_in))
    | inr o ↦ is ∙ cond-false (eqb k n) (marked_round now l r) now (ne_eqb _ _ (apart o)) ∙ before ∙ ap (λ z. cond (z && t k) (marked_round old l r) old) (sym (other o))
  ]
    where
      apart : (k < n) ⊎ (n < k) → k ≡ n → ⊥
      apart (inl less) e = absurd (omega (arith, less, e))
      apart (inr more) e = absurd (omega (arith, more, e))
