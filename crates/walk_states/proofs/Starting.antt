-- The starts: the origins in order of location.
use Rattle.std.proofs.Common.{◌≡◌, ℕ, zero, suc, ◌+◌, ◌<◌, ◌≤◌, Bool, true, false, List, [], ◌∷◌, ◌++◌, map, length, inl, inr, refl, sym, ap, subst, ◌∙◌, add-one, length-append, arith}
use Rattle.std.specs.Prelude.{filter}
use Rattle.std.proofs.lemmas.Bool.{cases_Bool, false≢true}
use Rattle.std.proofs.lemmas.List.{map-append}
use Rattle.path_exprs.specs.Expression.{Expression}
use Rattle.path_exprs.specs.Standings.{Standing, moved}
use Rattle.net_base.specs.Locations.{numbers_below}
use Rattle.net_base.proofs.NumbersBelow.{filter_kept, filter_left}
use Rattle.walk_states.specs.Growth.{gathered, with_standing}
use Rattle.walk_states.proofs.SameStandings.{Among, among-head}
use Rattle.walk_states.proofs.Gathering.{among-append, gathered-append, with-cases}
use Rattle.walk_states.proofs.Stepping.{gathered-nil, gathered-one}

-- the standings of the locations below n that pass a test
abbrev pub starts_below : List Expression → (ℕ → Bool) → ℕ → List Standing
starts_below es p n = map (moved es) (filter p (numbers_below n))

pub starts_below-origin : (es : List Expression) (p : ℕ → Bool) (n : ℕ) → p n ≡ true → starts_below es p (n + 1) ≡ starts_below es p n ++ moved es n ∷ []
starts_below-origin es p n h =
    ap (map (moved es)) (filter_kept p n h) ∙ map-append (moved es) (filter p (numbers_below n)) (n ∷ [])

pub starts_below-other : (es : List Expression) (p : ℕ → Bool) (n : ℕ) → p n ≡ false → starts_below es p (n + 1) ≡ starts_below es p n
starts_below-other es p n h = ap (map (moved es)) (filter_left p n h)

-- a standing at one of these is at a location below n that passes
pub starts_below-at : (es : List Expression) (p : ℕ → Bool) (n : ℕ) (x : Standing) → Among (starts_below es p n) x → (x.at < n) × (p x.at ≡ true)
starts_below-at es p zero x h = absurd (false≢true h)
starts_below-at es p (suc n) x h = elim (cases_Bool (p n)) [
  | inl t ↦ elim (among-append x (starts_below es p n) (moved es n ∷ []) (subst (λ l. Among l x) (ap (starts_below es p) (sym (add-one n)) ∙ starts_below-origin es p n t) h)) [
    | inl e ↦ higher (starts_below-at es p n x e)
    | inr e ↦ elim (among-head x (moved es n) [] e) [
      | inl q ↦ last t (ap (λ (y : Standing). y.at) q)
      | inr q ↦ absurd (false≢true q)
    ]
  ]
  | inr f ↦ higher (starts_below-at es p n x (subst (λ l. Among l x) (ap (starts_below es p) (sym (add-one n)) ∙ starts_below-other es p n f) h))
]
  where
    higher : (x.at < n) × (p x.at ≡ true) → (x.at < suc n) × (p x.at ≡ true)
    higher r =
        let below = r.0 in
        (omega arith, r.1)

    last : p n ≡ true → x.at ≡ n → (x.at < suc n) × (p x.at ≡ true)
    last t q = (omega arith, ap p q ∙ t)

-- no start comes twice
pub gathered-starts : (es : List Expression) (p : ℕ → Bool) (n : ℕ) → gathered [] (starts_below es p n) ≡ starts_below es p n
gathered-starts es p zero = gathered-nil []
gathered-starts es p (suc n) = elim (cases_Bool (p n)) [
  | inl t ↦
      let more = ap (starts_below es p) (sym (add-one n)) ∙ starts_below-origin es p n t in
      ap (gathered []) more ∙ gathered-append [] (starts_below es p n) (moved es n ∷ [])
      ∙ ap (λ l. gathered l (moved es n ∷ [])) (gathered-starts es p n)
      ∙ gathered-one (starts_below es p n) (moved es n)
      ∙ apart ∙ sym more
  | inr f ↦
      let more = ap (starts_below es p) (sym (add-one n)) ∙ starts_below-other es p n f in
      ap (gathered []) more ∙ gathered-starts es p n ∙ sym more
]
  where
    apart : with_standing (starts_below es p n) (moved es n) ≡ starts_below es p n ++ moved es n ∷ []
    apart = elim (with-cases (starts_below es p n) (moved es n)) [
      | inl t ↦
          let low = (starts_below-at es p n (moved es n) t.0).0 in
          absurd (omega arith)
      | inr f ↦ f.1
    ]

pub starts-all : (es : List Expression) (p : ℕ → Bool) (n k : ℕ) (before xs : List Standing) → before ≡ [] → xs ≡ gathered before (starts_below es p k) → k ≡ n → xs ≡ starts_below es p n
starts-all es p n k before xs none added all = added ∙ ap (λ l. gathered l (starts_below es p k)) none ∙ gathered-starts es p k ∙ ap (starts_below es p) all

pub length-starts_below : (es : List Expression) (p : ℕ → Bool) (n : ℕ) → length (starts_below es p n) ≤ n
length-starts_below es p zero = omega arith
length-starts_below es p (suc n) = elim (cases_Bool (p n)) [
  | inl t ↦
      let more = ap (λ k. length (starts_below es p k)) (sym (add-one n)) ∙ ap length (starts_below-origin es p n t) ∙ length-append (starts_below es p n) (moved es n ∷ []) in
      let rest = length-starts_below es p n in
      omega (arith, more)
  | inr f ↦
      let same = ap (λ k. length (starts_below es p k)) (sym (add-one n)) ∙ ap length (starts_below-other es p n f) in
      let rest = length-starts_below es p n in
      omega (arith, same)
]

-- there are no more of them than locations
pub starts-few : (es : List Expression) (p : ℕ → Bool) (k : ℕ) (before xs : List Standing) → before ≡ [] → xs ≡ gathered before (starts_below es p k) → length xs ≤ k
starts-few es p k before xs none added =
    let size = ap length (starts-all es p k k before xs none added refl) in
    omega (arith, size, length-starts_below es p k)
