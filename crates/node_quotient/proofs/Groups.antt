-- Nodes in groups by their keys.
use Rattle.std.proofs.Common.{◌≡◌, ◌⊎◌, ℕ, ◌+◌, ◌<◌, true, List, [], ◌∷◌, ◌++◌, length, set, sym, ap, ◌∙◌, subst, inl, inr, arith}
use Rattle.std.specs.Prelude.{All, slice_index_or}
use Rattle.std.proofs.lemmas.Bool.{cases_eq}
use Rattle.std.proofs.lemmas.List.{get_or-set_same, get_or-set_other}
use Rattle.reach_prune.specs.Searches.{is_among, is_listed}
use Rattle.node_quotient.specs.Alike.{Ascends, class_in, list_of}
use Rattle.node_quotient.specs.Splits.{AreGroups}
use Rattle.node_quotient.proofs.Ascending.{among_more, among_new, among_old, ascends_more}
use Rattle.node_quotient.proofs.Turns.{among_get}

-- a group holds first nodes alone
pub group_below : (count : ℕ) (keys : List ℕ) (groups : List (List ℕ)) (k : ℕ) (list : List ℕ) → AreGroups count keys groups → list ≡ list_of groups k → All (λ n. n < count) list
group_below count keys groups k list are e i d lt = (are.only k (slice_index_or list i d) (ap (λ xs. is_among xs (slice_index_or list i d)) (sym e) ∙ among_get list i d lt)).0

module _ (keys : List ℕ) (node : ℕ) (groups : List (List ℕ)) (row : List ℕ) (are : AreGroups node keys groups)
    (lt : class_in keys node < length groups) (is : row ≡ list_of groups (class_in keys node) ++ node ∷ []) where
  abbrev after : List (List ℕ)
  after = set groups (class_in keys node) row

  same : list_of after (class_in keys node) ≡ list_of groups (class_in keys node) ++ node ∷ []
  same = get_or-set_same groups (class_in keys node) row [] lt ∙ is

  others : (k : ℕ) → (k ≡ class_in keys node → ⊥) → list_of after k ≡ list_of groups k
  others k a = get_or-set_other groups (class_in keys node) k row [] a

  listed_before : (k n : ℕ) → is_listed after k n ≡ true → (is_listed groups k n ≡ true) ⊎ ((n ≡ node) × (k ≡ class_in keys node))
  listed_before k n h = elim (cases_eq k (class_in keys node)) [
    | inl e ↦ elim (among_more (list_of groups (class_in keys node)) node n (ap (λ xs. is_among xs n) (sym same) ∙ ap (λ j. is_listed after j n) (sym e) ∙ h)) [
      | inl t ↦ inl (ap (λ j. is_listed groups j n) e ∙ t)
      | inr at ↦ inr (sym at, e)
    ]
    | inr a ↦ inl (ap (λ xs. is_among xs n) (sym (others k a)) ∙ h)
  ]

  listed_after : (k n : ℕ) → is_listed groups k n ≡ true → is_listed after k n ≡ true
  listed_after k n h = elim (cases_eq k (class_in keys node)) [
    | inl e ↦ ap (λ j. is_listed after j n) e ∙ ap (λ xs. is_among xs n) same ∙ among_old (list_of groups (class_in keys node)) node n (ap (λ j. is_listed groups j n) (sym e) ∙ h)
    | inr a ↦ ap (λ xs. is_among xs n) (others k a) ∙ h
  ]

  pub groups_more : AreGroups (node + 1) keys (set groups (class_in keys node) row)
  groups_more = record {
    listed = λ n l. elim (cases_eq n node) [
      | inl e ↦ subst (λ j. is_listed after (class_in keys j) j ≡ true) (sym e) (ap (λ xs. is_among xs node) same ∙ among_new (list_of groups (class_in keys node)) node)
      | inr a ↦ listed_after (class_in keys n) n (are.listed n (omega (arith, l, a)))
    ];
    only = λ k n h. elim (listed_before k n h) [
      | inl old ↦ let p = are.only k n old in let less = p.0 in (omega (arith, less), p.1)
      | inr new ↦ let e = new.0 in (omega (arith, e), ap (class_in keys) e ∙ sym new.1)
    ];
    ascend = λ k. elim (cases_eq k (class_in keys node)) [
      | inl e ↦
          subst (λ j. Ascends (list_of after j)) (sym e) (subst Ascends (sym same) (ascends_more (list_of groups (class_in keys node)) node
          (are.ascend (class_in keys node)) (λ m there. (are.only (class_in keys node) m there).0)))
      | inr a ↦ subst Ascends (sym (others k a)) (are.ascend k)
    ];
  }
