-- One item more joins the group of its key, or begins one: the keys stay apart and are those of all items.
use Rattle.std.proofs.Common.{◌≡◌, ℕ, ◌<◌, ◌≤◌, Bool, true, false, List, [], ◌∷◌, ◌++◌, length, map, set, suc, refl, sym, ap, ◌∙◌, subst, arith, inl, inr, Some}
use Rattle.std.specs.Prelude.{filter, slice_get, if◌then◌else◌}
use Rattle.std.specs.Cmp.{IsEquivalence}
use Rattle.std.specs.List.{IsDistinct, list_any}
use Rattle.std.proofs.lemmas.Bool.{cases_Bool, true≢false}
use Rattle.std.proofs.lemmas.Map.Keys.{IsDistinct-push}
use Rattle.std.proofs.lemmas.Option.{slice_get_within}
use Rattle.list_law.specs.Members.{IsIn}
use Rattle.list_law.proofs.Items.{from_front}
use Rattle.list_law.proofs.Keys.{place_by_key}
use Rattle.list_law.proofs.Members.{IsIn-append_left, IsIn-push, IsIn-push_cases, list_any-from_IsIn, list_any_member}
use Rattle.group_law.proofs.Grouping.{group_begun, group_grown}

pub filter_nothing : {A : Type 0} (p : A → Bool) (xs : List A) → ((x : A) → IsIn xs x → p x ≡ false) → filter p xs ≡ []
filter_nothing p [] off = refl
filter_nothing p (x ∷ xs) off = rw (off x (0, refl)) (filter_nothing p xs (λ y at. off y (suc at.0, at.1)))

map_itself : {A : Type 0} (xs : List A) → map (λ x. x) xs ≡ xs
map_itself [] = refl
map_itself (x ∷ xs) = ap (λ ys. x ∷ ys) (map_itself xs)

module _ {A K G : Type 0} (same : K → K → Bool) (exact : (a b : K) → same a b ≡ true → a ≡ b) (itself : (a b : K) → a ≡ b → same a b ≡ true) (key : A → K) (make : K → List A → G)
    (xs : List A) (ks : List K) (apart : IsDistinct same ks) (covered : (x : A) → IsIn xs x → IsIn ks (key x)) (x : A) where
  abbrev pub longer : List K
  longer = if list_any (same (key x)) ks then ks else ks ++ key x ∷ []

  equivalence : IsEquivalence same
  equivalence = record {
    refl = λ a. itself a a refl;
    symm = λ a b. both a b;
    congr = λ a b c is. ap (λ d. same d c) (exact a b is);
  }
    where
      both : (a b : K) → same a b ≡ same b a
      both a b = elim (cases_Bool (same a b)) [
        | inl t ↦ t ∙ sym (itself b a (sym (exact a b t)))
        | inr t ↦ elim (cases_Bool (same b a)) [
          | inl u ↦ absurd (true≢false (sym (itself a b (sym (exact b a u))) ∙ t))
          | inr u ↦ t ∙ sym u
        ]
      ]

  known : list_any (same (key x)) ks ≡ true → IsIn ks (key x)
  known t = let found = list_any_member (same (key x)) ks t in subst (IsIn ks) (sym (exact (key x) found.0 found.2)) found.1

  fresh : list_any (same (key x)) ks ≡ false → (k : K) → IsIn ks k → same (key x) k ≡ false
  fresh t k at = elim (cases_Bool (same (key x) k)) [
    | inl u ↦ absurd (true≢false (sym (list_any-from_IsIn (same (key x)) ks k at u) ∙ t))
    | inr u ↦ u
  ]

  pub keys_apart : IsDistinct same longer
  keys_apart = elim (cases_Bool (list_any (same (key x)) ks)) [
    | inl t ↦ rw t apart
    | inr t ↦ rw t (IsDistinct-push equivalence ks (key x) apart t)
  ]

  pub keys_covered : (y : A) → IsIn (xs ++ x ∷ []) y → IsIn longer (key y)
  keys_covered y at = elim (cases_Bool (list_any (same (key x)) ks)) [
    | inl t ↦ rw t (elim (IsIn-push_cases xs x y at) [
      | inl u ↦ covered y u
      | inr u ↦ subst (λ z. IsIn ks (key z)) u (known t)
    ])
    | inr t ↦ rw t (elim (IsIn-push_cases xs x y at) [
      | inl u ↦ IsIn-append_left ks (key x ∷ []) (key y) (covered y u)
      | inr u ↦ subst (λ z. IsIn (ks ++ key x ∷ []) (key z)) u (IsIn-push ks (key x))
    ])
  ]

  module _ (more : List K) (keys : more ≡ longer) (place : ℕ) (k : K) (at : slice_get more place ≡ Some k) where
    -- the key is known
    module _ (is : same (key x) k ≡ true) (inside : place < length ks) where
      at_k : slice_get ks place ≡ Some k
      at_k = elim (cases_Bool (list_any (same (key x)) ks)) [
        | inl t ↦ ap (λ (b : Bool). slice_get (if b then ks else ks ++ key x ∷ []) place) (sym t) ∙ ap (λ ds. slice_get ds place) (sym keys) ∙ at
        | inr t ↦
            from_front ks (key x ∷ []) place k (ap (λ (b : Bool). slice_get (if b then ks else ks ++ key x ∷ []) place) (sym t) ∙ ap (λ ds. slice_get ds place) (sym keys) ∙ at) inside
      ]

      kept : more ≡ ks
      kept = keys ∙ ap (λ (b : Bool). if b then ks else ks ++ key x ∷ []) (list_any-from_IsIn (same (key x)) ks k (place, at_k) is)

      one_place : (j : ℕ) (l : K) → slice_get ks j ≡ Some l → same (key x) l ≡ true → j ≡ place
      one_place j l there on =
          let both : l ≡ k = sym (exact (key x) l on) ∙ exact (key x) k is in
          place_by_key same (λ d. d) ks j place l k (subst (IsDistinct same) (sym (map_itself ks)) apart) there at_k (itself l k both) (itself k l (sym both))

      pub joined : set (map (λ l. make l (filter (λ y. same (key y) l) xs)) ks) place (make k (filter (λ y. same (key y) k) xs ++ x ∷ []))
          ≡ map (λ l. make l (filter (λ y. same (key y) l) (xs ++ x ∷ []))) more
      joined =
          group_grown (λ l y. same (key y) l) make xs x ks place k one_place at_k is
          ∙ ap (map (λ l. make l (filter (λ y. same (key y) l) (xs ++ x ∷ [])))) (sym kept)

      pub joined_at : slice_get ks place ≡ Some k
      joined_at = at_k

    -- the key is new
    pub begun : length ks ≤ place → map (λ l. make l (filter (λ y. same (key y) l) xs)) ks ++ make (key x) (x ∷ []) ∷ []
        ≡ map (λ l. make l (filter (λ y. same (key y) l) (xs ++ x ∷ []))) more
    begun past = elim (cases_Bool (list_any (same (key x)) ks)) [
      | inl t ↦
          let there : slice_get ks place ≡ Some k = ap (λ (b : Bool). slice_get (if b then ks else ks ++ key x ∷ []) place) (sym t) ∙ ap (λ ds. slice_get ds place) (sym keys) ∙ at in
          absurd (omega (arith, slice_get_within ks place k there, past))
      | inr t ↦
          group_begun (λ l y. same (key y) l) make xs x ks (key x) (λ j l there. fresh t l (j, there))
          (filter_nothing (λ y. same (key y) (key x)) xs (λ y there. elim (cases_Bool (same (key y) (key x))) [
            | inl u ↦ absurd (true≢false (sym (itself (key x) (key y) (sym (exact (key y) (key x) u))) ∙ fresh t (key y) (covered y there)))
            | inr u ↦ u
          ]))
          (itself (key x) (key x) refl)
          ∙ ap (map (λ l. make l (filter (λ y. same (key y) l) (xs ++ x ∷ [])))) (sym (keys ∙ ap (λ (b : Bool). if b then ks else ks ++ key x ∷ []) t))
    ]
