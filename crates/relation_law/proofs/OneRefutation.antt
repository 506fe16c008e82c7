-- There is one refutation.
use Rattle.std.proofs.Common.{◌≡◌, ℕ, zero, suc, ◌<◌, Bool, true, false, not, ◌&&◌, ◌||◌, ◌⊎◌, List, [], ◌∷◌, Some, None, inl, inr, arith, refl, sym, ap, ◌∙◌, subst}
use Rattle.std.specs.Prelude.{is_some, option_map, slice_get, if◌then◌else◌}
use Rattle.std.proofs.lemmas.Bool.{cases_order, both_ways, eqb-true, or_right}
use Rattle.net_base.specs.declared.loc.LocSet.{LocSet}
use Rattle.graph_base.specs.declared.refutation.Removed.{Removed}
use Rattle.graph_base.specs.declared.refutation.Why.{Why}
use Rattle.graph_base.specs.declared.refutation.Why.TheVariants.{NoStep, StepWorse, LoopWorse, ListenerWorse}
use Rattle.graph_base.specs.Graphs.{PlainGraph, IsGraph}
use Rattle.graph_base.specs.Refuting.{HasSingleSteps, IsLine}
use Rattle.graph_base.specs.Runs.{place_of}
use Rattle.graph_base.proofs.StartsAndSteps.{step_nodes}
use Rattle.relation_law.specs.Relations.{Pair, steps_on}
use Rattle.relation_law.specs.Rounds.{IsReach, fails, fails_at, gone_after, has_answer, is_heard_there, same_place}
use Rattle.relation_law.specs.Views.{View, view_of}
use Rattle.relation_law.specs.Choosing.{Goes, IsChain, IsEarlier, IsNeeded, IsOpen, IsRefutation, IsRefutedPair, key_of}
use Rattle.graph_base.specs.Least.{least_below, or_else}
use Rattle.relation_law.proofs.Targets.{any_alike}
use Rattle.relation_law.specs.Reasons.{IsFirstFailing, IsReason, is_outranked, none, reason_at}
use Rattle.list_law.proofs.Truth.{same_tests}
use Rattle.relation_law.proofs.Chains.{goes-by}
use Rattle.relation_law.proofs.Falling.{reason_where_failing}

-- ---- the order of lines

module _ {x y z : ℕ} {P Q R : Type 0} where
  lex_through : (P → Q → R) → (x < y) ⊎ ((x ≡ y) × P) → (y < z) ⊎ ((y ≡ z) × Q) → (x < z) ⊎ ((x ≡ z) × R)
  lex_through f (inl a) (inl b) = inl (omega (arith, a, b))
  lex_through f (inl a) (inr b) = inl (omega (arith, a, b.0))
  lex_through f (inr a) (inl b) = inl (omega (arith, a.0, b))
  lex_through f (inr a) (inr b) = inr (a.0 ∙ b.0, f a.1 b.1)

lex_itself : (x : ℕ) (P : Type 0) → (P → ⊥) → (x < x) ⊎ ((x ≡ x) × P) → ⊥
lex_itself x P f (inl a) = absurd (omega (arith, a))
lex_itself x P f (inr a) = f a.1

lex_three : (x y : ℕ) (P Q E : Type 0) → P ⊎ (Q ⊎ E) → ((x < y) ⊎ ((x ≡ y) × P)) ⊎ (((y < x) ⊎ ((y ≡ x) × Q)) ⊎ ((x ≡ y) × E))
lex_three x y P Q E other = elim (cases_order x y) [
  | inl same ↦ elim other [
    | inl p ↦ inl (inr (same, p))
    | inr more ↦ elim more [ inl q ↦ inr (inl (inr (sym same, q))) | inr e ↦ inr (inr (same, e)) ]
  ]
  | inr apart ↦ elim apart [ inl t ↦ inl (inl t) | inr t ↦ inr (inl (inl t)) ]
]

abbrev Key : Type 0
Key = ℕ × ℕ × ℕ × ℕ

earlier_through : (x y z : Key) → IsEarlier x y → IsEarlier y z → IsEarlier x z
earlier_through x y z = lex_through (lex_through (lex_through (λ a b. omega (arith, a, b))))

earlier_itself : (x : Key) → IsEarlier x x → ⊥
earlier_itself x = lex_itself x.0 _ (lex_itself x.1 _ (lex_itself x.2 _ (λ h. absurd (omega (arith, h)))))

earlier_three : (x y : Key) → IsEarlier x y ⊎ (IsEarlier y x ⊎ ((x.0 ≡ y.0) × ((x.1 ≡ y.1) × ((x.2 ≡ y.2) × (x.3 ≡ y.3)))))
earlier_three x y = lex_three x.0 y.0 _ _ _ (lex_three x.1 y.1 _ _ _ (lex_three x.2 y.2 _ _ _ (last x.3 y.3)))
  where
    last : (a b : ℕ) → (a < b) ⊎ ((b < a) ⊎ (a ≡ b))
    last a b = elim (cases_order a b) [ inl e ↦ inr (inr e) | inr o ↦ elim o [ inl t ↦ inl t | inr t ↦ inr (inl t) ] ]

-- ---- lists in their order

none_there : (l : Removed) → IsLine [] l → ⊥
none_there l (i, h) = absurd (cc)

module _ (key : Removed → Key) where
  abbrev Ascends : List Removed → Type 0
  Ascends ls = (i : ℕ) (k l : Removed) → slice_get ls i ≡ Some k → slice_get ls (suc i) ≡ Some l → IsEarlier (key k) (key l)

  tail_ascends : (x : Removed) (xs : List Removed) → Ascends (x ∷ xs) → Ascends xs
  tail_ascends x xs up i k l a b = up (suc i) k l a b

  -- the first comes before all others
  first_before : (x : Removed) (xs : List Removed) → Ascends (x ∷ xs) → (l : Removed) → IsLine xs l → IsEarlier (key x) (key l)
  first_before x [] up l (i, h) = absurd (cc)
  first_before x (y ∷ xs) up l (zero, h) = up 0 x l refl h
  first_before x (y ∷ xs) up l (suc i, h) = earlier_through (key x) (key y) (key l) (up 0 x y refl refl) (first_before y xs (tail_ascends x (y ∷ xs) up) l (i, h))

  -- two with the same members are one
  one_list : (xs ys : List Removed) → Ascends xs → Ascends ys → ((l : Removed) → IsLine xs l → IsLine ys l) → ((l : Removed) → IsLine ys l → IsLine xs l) → xs ≡ ys
  one_list [] [] a b to from = refl
  one_list [] (y ∷ ys) a b to from = absurd (none_there y (from y (0, refl)))
  one_list (x ∷ xs) [] a b to from = absurd (none_there x (to x (0, refl)))
  one_list (x ∷ xs) (y ∷ ys) a b to from =
      let same : x ≡ y = heads (to x (0, refl)) (from y (0, refl)) in
      let rest = one_list xs ys (tail_ascends x xs a) (tail_ascends y ys b)
      (λ l is. later x xs y ys a same l is (to l (suc is.0, is.1)))
      (λ l is. later y ys x xs b (sym same) l is (from l (suc is.0, is.1))) in
      λ i. same i ∷ rest i
    where
      heads : IsLine (y ∷ ys) x → IsLine (x ∷ xs) y → x ≡ y
      heads (zero, h) other = (let is : y ≡ x = cc in sym is)
      heads (suc i, h) (zero, k) = (let is : x ≡ y = cc in is)
      heads (suc i, h) (suc j, k) = absurd (earlier_itself (key x) (earlier_through (key x) (key y) (key x) (first_before x xs a y (j, k)) (first_before y ys b x (i, h))))

      later : (u : Removed) (us : List Removed) (v : Removed) (vs : List Removed) → Ascends (u ∷ us) → u ≡ v → (l : Removed) → IsLine us l → IsLine (v ∷ vs) l → IsLine vs l
      later u us v vs up same l is (zero, h) = (
          let head : v ≡ l = cc in
          absurd (earlier_itself (key u) (subst (λ (w : Removed). IsEarlier (key u) (key w)) (sym (same ∙ head)) (first_before u us up l is))))
      later u us v vs up same l is (suc i, h) = (i, h)

-- ---- tests that agree below a bound

least_alike : (n : ℕ) (p q : ℕ → Bool) → ((k : ℕ) → k < n → p k ≡ q k) → least_below n p ≡ least_below n q
least_alike zero p q h = refl
least_alike (suc n) p q h = ap (λ b. or_else (least_below n p) b n) (h n (omega arith)) ∙ ap (λ o. or_else o (q n) n) (least_alike n p q (λ k lt. h k (omega (arith, lt))))

where_passed : (b x y : Bool) → (b ≡ true → x ≡ y) → (b && x) ≡ (b && y)
where_passed true x y h = h refl
where_passed false x y h = refl

module _ (g : PlainGraph) (claimed : LocSet) (ok : IsGraph g) (single : HasSingleSteps g) where
  abbrev V : View
  V = view_of g claimed

  module _ (reach other : ℕ → ℕ → Bool) (exact : IsReach (view_of g claimed) reach) (exact' : IsReach (view_of g claimed) other) where
    reach_alike : (a b : ℕ) → a < V.size → b < V.size → reach a b ≡ other a b
    reach_alike a b la lb = same_tests (reach a b) (other a b) (λ h. (exact' a b la lb).1 ((exact a b la lb).0 h)) (λ h. (exact a b la lb).1 ((exact' a b la lb).0 h))

    module _ (gone gone' : ℕ → ℕ → Bool) (alike : (s t : ℕ) → Pair V s t → gone s t ≡ gone' s t) where
      -- of nodes at one location
      alike_there : (s t : ℕ) → s < V.size → t < V.size → (p : Bool → Bool) → (same_place V s t && p (gone s t)) ≡ (same_place V s t && p (gone' s t))
      alike_there s t ls lt p = where_passed (same_place V s t) _ _ (λ e. ap p (alike s t (record { left = ls; right = lt; place = eqb-true _ _ e })))

      reason_alike : (m t : ℕ) → m < V.size → t < V.size → reason_at V reach gone m t ≡ reason_at V other gone' m t
      reason_alike m t lm lt =
          ap (λ b. if V.hears t then (if is_heard_there V m t then None else Some (ListenerWorse (V.place t)))
          else if not (has_answer V none m t) then Some (NoStep (V.place t))
          else if not b then Some (StepWorse (V.place t))
          else option_map (LoopWorse (V.place t)) (least_below V.size (λ k. same_place V k t && (reach k m && gone k t))))
          (any_alike V.size (λ s. steps_on V m s && (same_place V s t && not (gone s t)))
          (λ s. steps_on V m s && (same_place V s t && not (gone' s t))) (λ s ls. ap (λ b. steps_on V m s && b) (alike_there s t ls lt not)))
          ∙ ap (λ o. if V.hears t then (if is_heard_there V m t then None else Some (ListenerWorse (V.place t)))
          else if not (has_answer V none m t) then Some (NoStep (V.place t))
          else if not (has_answer V gone' m t) then Some (StepWorse (V.place t))
          else option_map (LoopWorse (V.place t)) o)
          (least_alike V.size (λ k. same_place V k t && (reach k m && gone k t)) (λ k. same_place V k t && (other k m && gone' k t))
          (λ k lk. ap (λ b. same_place V k t && (b && gone k t)) (reach_alike k m lk lm) ∙ alike_there k t lk lt (λ b. other k m && b)))

      pub fails_alike : (m n : ℕ) → m < V.size → fails V reach gone m n ≡ fails V other gone' m n
      fails_alike m n lm = ap (λ b. is_outranked V m n || b) (any_alike V.size (λ t. V.step n t && fails_at V reach gone m t) (λ t. V.step n t && fails_at V other gone' m t) (λ t lt.
          ap (λ b. V.step n t && b) (sym (reason_where_failing g claimed ok reach gone m t) ∙ ap is_some (reason_alike m t lm lt) ∙ reason_where_failing g claimed ok other gone' m t)))

      pub reasons_alike : (m n : ℕ) (why : Why) → m < V.size → IsReason V reach gone m n why → IsReason V other gone' m n why
      reasons_alike m n why lm (inl h) = inl h
      reasons_alike m n why lm (inr h) =
          let t = h.1.0 in
          let before = h.1.1 in
          let lt = (step_nodes g n t ok before.step).1 in
          let first_here : IsFirstFailing V other gone' m n t = record {
            step = before.step;
            fails = sym (ap is_some (reason_alike m t lm lt)) ∙ before.fails;
            first = λ u st fl. before.first u st (ap is_some (reason_alike m u lm (step_nodes g n u ok st).1) ∙ fl);
          } in
          inr (h.0, (t, first_here, sym (reason_alike m t lm lt) ∙ h.1.2))

    gone_alike : (r m n : ℕ) → m < V.size → gone_after V reach r m n ≡ gone_after V other r m n
    gone_alike zero m n lm = refl
    gone_alike (suc r) m n lm =
        ap (λ b. b || fails V reach (gone_after V reach r) m n) (gone_alike r m n lm)
        ∙ ap (λ b. gone_after V other r m n || b) (fails_alike (gone_after V reach r) (gone_after V other r) (λ s t p. gone_alike r s t p.left) m n lm)

    goes_alike : (m n round : ℕ) (why : Why) → Goes V reach m n round why → Goes V other m n round why
    goes_alike m n round why h = record {
      pair = h.pair;
      before = h.before;
      next = h.next;
      stayed = sym (gone_alike h.before m n h.pair.left) ∙ h.stayed;
      fell = sym (fails_alike (gone_after V reach h.before) (gone_after V other h.before) (λ s t p. gone_alike h.before s t p.left) m n h.pair.left) ∙ h.fell;
      reason = reasons_alike (gone_after V reach h.before) (gone_after V other h.before) (λ s t p. gone_alike h.before s t p.left) m n why h.pair.left h.reason;
    }

    chain_alike : (m n : ℕ) (via : List (ℕ × ℕ)) (a b : ℕ) → IsChain V reach m n via a b → IsChain V other m n via a b
    chain_alike m n [] a b h = h
    chain_alike m n (x ∷ via) a b h = (h.0, h.1, goes_alike m n h.0 h.1 h.2, h.3, chain_alike x.0 x.1 via a b h.4)

    needed_alike : (first second a b : ℕ) → IsNeeded V reach first second a b → IsNeeded V other first second a b
    needed_alike first second a b (via, inl h) = (via, inl (chain_alike first second via a b h))
    needed_alike first second a b (via, inr h) = (via, inr (chain_alike second first via a b h))

    open_alike : (first second round : ℕ) → IsOpen V reach first second round → IsOpen V other first second round
    open_alike first second round h = record {
      order = h.order;
      pair = h.pair;
      before = h.before;
      next = h.next;
      later = (sym (gone_alike round first second h.pair.left) ∙ h.later.0, sym (gone_alike round second first h.pair.right) ∙ h.later.1);
      earlier = λ a b. h.earlier (gone_alike h.before first second h.pair.left ∙ a) (gone_alike h.before second first h.pair.right ∙ b);
    }

  -- ---- a pair goes in one round, for one reason

  module _ (reach : ℕ → ℕ → Bool) (exact : IsReach (view_of g claimed) reach) where
    gone_in : (m n round : ℕ) (why : Why) → Goes V reach m n round why → gone_after V reach round m n ≡ true
    gone_in m n round why h = ap (λ k. gone_after V reach k m n) h.next ∙ or_right (gone_after V reach h.before m n) _ h.fell

    one_round : (m n r s : ℕ) (why why' : Why) → Goes V reach m n r why → Goes V reach m n s why' → r ≡ s
    one_round m n r s why why' a b =
        let le = goes-by g claimed ok reach exact m n r s why a (gone_in m n s why' b) in
        let ge = goes-by g claimed ok reach exact m n s r why' b (gone_in m n r why a) in
        omega (arith, le, ge)

    one_reason : (gone : ℕ → ℕ → Bool) (m n : ℕ) (why why' : Why) → IsReason V reach gone m n why → IsReason V reach gone m n why' → why ≡ why'
    one_reason gone m n why why' (inl a) (inl b) = a.1 ∙ sym b.1
    one_reason gone m n why why' (inl a) (inr b) = absurd (both_ways (is_outranked V m n) b.0 a.0)
    one_reason gone m n why why' (inr a) (inl b) = absurd (both_ways (is_outranked V m n) a.0 b.0)
    one_reason gone m n why why' (inr a) (inr b) =
        let t = a.1.0 in
        let u = b.1.0 in
        let le = a.1.1.first u b.1.1.step b.1.1.fails in
        let ge = b.1.1.first t a.1.1.step a.1.1.fails in
        let place : place_of g t ≡ place_of g u = omega (arith, le, ge) in
        let same : t ≡ u = single n t u a.1.1.step b.1.1.step place in
        let is : Some why ≡ Some why' = sym a.1.2 ∙ ap (reason_at V reach gone m) same ∙ b.1.2 in
        cc

    pub one_why : (m n r s : ℕ) (why why' : Why) → Goes V reach m n r why → Goes V reach m n s why' → why ≡ why'
    one_why m n r s why why' a b =
        let rounds = one_round m n r s why why' a b in
        let before : b.before ≡ a.before = omega (arith, rounds, a.next, b.next) in
        one_reason (gone_after V reach a.before) m n why why' a.reason (subst (λ k. IsReason V reach (gone_after V reach k) m n why') before b.reason)

    one_line : (k l : Removed) → k.better ≡ l.better → k.worse ≡ l.worse → Goes V reach k.better k.worse k.round k.why → Goes V reach l.better l.worse l.round l.why → k ≡ l
    one_line k l better worse a b =
        let b' : Goes V reach k.better k.worse l.round l.why = subst (λ x. Goes V reach x k.worse l.round l.why) (sym better) (subst (λ y. Goes V reach l.better y l.round l.why) (sym worse) b) in
        let round = one_round k.better k.worse k.round l.round k.why l.why a b' in
        let why = one_why k.better k.worse k.round l.round k.why l.why a b' in
        λ i. record { better = better i; worse = worse i; round = round i; why = why i }

  -- ---- one pair, and one list

  module _ (reach other : ℕ → ℕ → Bool) (exact : IsReach (view_of g claimed) reach) (exact' : IsReach (view_of g claimed) other) where
    one_pair : (a b r c d s : ℕ) → IsRefutedPair V reach a b r → IsRefutedPair V other c d s → (a ≡ c) × (b ≡ d)
    one_pair a b r c d s x y = elim (earlier_three (r, V.place a, a, b) (s, V.place c, c, d)) [
      | inl before ↦ absurd (y.least a b r (open_alike reach other exact exact' a b r x.is_open) before)
      | inr rest ↦ elim rest [
        | inl after ↦ absurd (x.least c d s (open_alike other reach exact' exact c d s y.is_open) after)
        | inr same ↦ (same.1.1.0, same.1.1.1)
      ]
    ]

    members : (a b : ℕ) (lines lines' : List Removed) → IsRefutation V reach a b lines → IsRefutation V other a b lines' → (l : Removed) → IsLine lines l → IsLine lines' l
    members a b lines lines' x y l is =
        let mine = x.each l is in
        let k = y.all l.better l.worse (needed_alike reach other exact exact' a b l.better l.worse mine.0) in
        let theirs = goes_alike other reach exact' exact k.0.better k.0.worse k.0.round k.0.why (y.each k.0 k.1).1 in
        subst (IsLine lines') (one_line reach exact k.0 l k.2 k.3 theirs mine.1) k.1

  pub refutation_is_one : (reach other : ℕ → ℕ → Bool) → IsReach (view_of g claimed) reach → IsReach (view_of g claimed) other → (a b c d : ℕ) (lines lines' : List Removed)
      → IsRefutation V reach a b lines → IsRefutation V other c d lines' → (a ≡ c) × (b ≡ d) × (lines ≡ lines')
  refutation_is_one reach other exact exact' a b c d lines lines' x y =
      let pair = one_pair reach other exact exact' a b x.round c d y.round x.pair y.pair in
      let y' : IsRefutation V other a b lines' = subst (λ k. IsRefutation V other k b lines') (sym pair.0) (subst (λ k. IsRefutation V other c k lines') (sym pair.1) y) in
      (pair.0, pair.1, one_list (key_of V) lines lines' x.order y'.order (members reach other exact exact' a b lines lines' x y') (members other reach exact' exact a b lines' lines y' x))
