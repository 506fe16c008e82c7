-- Offers as far as the loops have come.
use Rattle.std.proofs.Common.{◌≡◌, ◌≢◌, ℕ, ◌+◌, ◌<◌, ◌≤◌, Bool, true, false, List, [], length, get_or, replicate, set, take, eqb, get_or-set_same, get_or-set_other, length-set}
use Rattle.std.proofs.Common.{Option, Some, None, refl, sym, ap, ◌∙◌, subst, inl, inr, ◌⊎◌, arith, ltb-true, ltb-false}
use Rattle.std.specs.Prelude.{◌&&◌, ◌||◌}
use Rattle.std.proofs.lemmas.Bool.{and_from, and_parts, cases_eq, eqb-true, eq-eqb, or_cases, or_left, or_right, false≢true}
use Rattle.std.proofs.lemmas.List.{length-replicate}
use Rattle.std.proofs.lemmas.List.Folds.{list_any_more}
use Rattle.std.proofs.Math.Bool.{or-false}
use Rattle.net_base.specs.Network.{PlainNet, id_of}
use Rattle.graph_base.specs.Graphs.{PlainGraph}
use Rattle.graph_base.specs.Runs.{place_of}
use Rattle.reach_prune.specs.Searches.{is_among, is_listed}
use Rattle.settled_graph.specs.declared.offers.Offer.{Offer}
use Rattle.graph_base.specs.Preferences.{number_in}
use Rattle.settled_graph.specs.Best.{entry_at}
use Rattle.settled_graph.specs.Offers.{AreLowest, AreOfNodes, IsLowest, IsLowestOrNone, is_lower}
use Rattle.settled_graph.proofs.Tables.{no_entry}

abbrev pub more : (ℕ → ℕ → Bool) → ℕ → ℕ → ℕ → ℕ → Bool
more passes from to f t = passes f t || (eqb from f && eqb to t)

-- the steps that pass, and those from one node to some others
abbrev pub through : (ℕ → ℕ → Bool) → ℕ → List ℕ → ℕ → ℕ → Bool
through passes from nodes f t = passes f t || (eqb from f && is_among nodes t)

-- the steps from some nodes by lists
abbrev pub along : List ℕ → List (List ℕ) → ℕ → ℕ → Bool
along nodes lists f t = is_among nodes f && is_listed lists f t

spread : (a b x y : Bool) → ((a || (b && x)) || (b && y)) ≡ (a || (b && (x || y)))
spread true b x y = refl
spread false true x y = refl
spread false false x y = refl

module _ (net : PlainNet) (g : PlainGraph) (numbers : List ℕ) (wanted : List (Option ℕ)) where
  abbrev Lowest : (ℕ → ℕ → Bool) → ℕ → Option Offer → Type 0
  Lowest = IsLowestOrNone net g numbers wanted

  abbrev Wants : ℕ → ℕ → Type 0
  Wants l t = entry_at wanted l ≡ Some (number_in numbers t)

  -- more steps change nothing at a location to which none of them leads that is wanted
  pub unmoved : (old new : ℕ → ℕ → Bool) (l : ℕ) (o : Option Offer) → ((f t : ℕ) → old f t ≡ true → new f t ≡ true)
      → ((f t : ℕ) → new f t ≡ true → place_of g t ≡ l → Wants l t → old f t ≡ true) → Lowest old l o → Lowest new l o
  unmoved old new l None more back none = λ f t step place number. none f t (back f t step place number) place number
  unmoved old new l (Some o) more back is =
      record {
        step = more o.from o.to is.step;
        place = is.place;
        number = is.number;
        least = λ f t step place number. is.least f t (back f t step place number) place number;
      }

  -- tests that say the same
  pub same_lowest : (old new : ℕ → ℕ → Bool) (offers : List (Option Offer)) → ((f t : ℕ) → old f t ≡ new f t) → AreLowest net g numbers wanted old offers → AreLowest net g numbers wanted new offers
  same_lowest old new offers same are = record {
    size = are.size;
    each = λ l low. unmoved old new l (entry_at offers l) (λ f t h. sym (same f t) ∙ h) (λ f t h p w. same f t ∙ h) (are.each l low);
  }

  -- one node more of those to which steps lead
  pub through_next : (passes : ℕ → ℕ → Bool) (from to i d : ℕ) (nodes : List ℕ) (offers : List (Option Offer)) → i < length nodes → to ≡ get_or nodes i d
      → AreLowest net g numbers wanted (more (through passes from (take i nodes)) from to) offers → AreLowest net g numbers wanted (through passes from (take (i + 1) nodes)) offers
  through_next passes from to i d nodes offers less is are = same_lowest (more (through passes from (take i nodes)) from to) (through passes from (take (i + 1) nodes)) offers (λ f t.
      spread (passes f t) (eqb from f) (is_among (take i nodes) t) (eqb to t)
      ∙ ap (λ b. passes f t || (eqb from f && b)) (ap (λ x. is_among (take i nodes) t || eqb x t) is ∙ sym (list_any_more (λ x. eqb x t) nodes i d less))) are

  -- one node more of those from which steps lead
  pub along_next : (front : List ℕ) (lists : List (List ℕ)) (from i d : ℕ) (nodes : List ℕ) (offers : List (Option Offer)) → i < length front → from ≡ get_or front i d → nodes ≡ get_or lists from []
      → AreLowest net g numbers wanted (through (along (take i front) lists) from nodes) offers → AreLowest net g numbers wanted (along (take (i + 1) front) lists) offers
  along_next front lists from i d nodes offers less is listed are = same_lowest (through (along (take i front) lists) from nodes) (along (take (i + 1) front) lists) offers (λ f t.
      joined f t (is_among (take i front) f) (eqb from f) refl
      ∙ ap (λ b. b && is_listed lists f t) (ap (λ x. is_among (take i front) f || eqb x f) is ∙ sym (list_any_more (λ x. eqb x f) front i d less))) are
    where
      joined : (f t : ℕ) (a b : Bool) → eqb from f ≡ b → ((a && is_listed lists f t) || (b && is_among nodes t)) ≡ ((a || b) && is_listed lists f t)
      joined f t true true e = both (is_listed lists f t) (is_among nodes t) (ap (λ xs. is_among xs t) (listed ∙ ap (λ k. get_or lists k []) (eqb-true from f e)))
        where
          both : (x y : Bool) → y ≡ x → (x || y) ≡ x
          both true y e = refl
          both false y e = e
      joined f t true false e = or-false (is_listed lists f t)
      joined f t false true e = ap (λ xs. is_among xs t) (listed ∙ ap (λ k. get_or lists k []) (eqb-true from f e))
      joined f t false false e = refl

  module _ (passes : ℕ → ℕ → Bool) (from to : ℕ) (offers : List (Option Offer)) where
    abbrev at : ℕ
    at = place_of g to

    new_step : (f t : ℕ) → more passes from to f t ≡ true → (passes f t ≡ true) ⊎ ((f ≡ from) × (t ≡ to))
    new_step f t h = elim (or_cases (passes f t) (eqb from f && eqb to t) h) [
      | inl old ↦ inl old
      | inr new ↦ (let parts = and_parts (eqb from f) (eqb to t) new in inr (sym (eqb-true from f parts.0), sym (eqb-true to t parts.1)))
    ]

    kept_step : (f t : ℕ) → passes f t ≡ true → more passes from to f t ≡ true
    kept_step f t h = or_left (passes f t) (eqb from f && eqb to t) h

    this_step : more passes from to from to ≡ true
    this_step = or_right (passes from to) (eqb from from && eqb to to) (and_from (eqb from from) (eqb to to) (eq-eqb from from refl) (eq-eqb to to refl))

    -- no step that is wanted leads elsewhere
    elsewhere : (l : ℕ) (o : Option Offer) → (at ≢ l) ⊎ (Wants l to → ⊥) → Lowest passes l o → Lowest (more passes from to) l o
    elsewhere l o off = unmoved passes (more passes from to) l o kept_step (λ f t h place number. elim (new_step f t h) [
      | inl old ↦ old
      | inr new ↦ elim off [
        | inl apart ↦ absurd (apart (ap (place_of g) (sym new.1) ∙ place))
        | inr unwanted ↦ absurd (unwanted (subst (Wants l) new.1 number))
      ]
    ])

    -- the step is taken
    pub lowest_there : Wants at to → is_lower net g from (entry_at offers at) ≡ true → at < 768 → AreLowest net g numbers wanted passes offers
        → AreLowest net g numbers wanted (more passes from to) (set offers at (Some (record { from = from; to = to })))
    lowest_there wants lower low are = record {
      size = length-set _ _ _ ∙ are.size;
      each = λ l less. elim (cases_eq l at) [
        | inl here ↦ subst (λ k. Lowest (more passes from to) k (entry_at (set offers at (Some (record { from = from; to = to }))) k)) (sym here)
            (subst (Lowest (more passes from to) at) (sym (get_or-set_same offers at (Some (record { from = from; to = to })) None (omega (arith, low, are.size)))) taken)
        | inr there ↦
            subst (Lowest (more passes from to) l) (sym (get_or-set_other offers at l (Some (record { from = from; to = to })) None there))
            (elsewhere l (entry_at offers l) (inl (λ e. there (sym e))) (are.each l less))
      ];
    }
      where
        before : (o : Option Offer) → is_lower net g from o ≡ true → Lowest passes at o → (f t : ℕ) → passes f t ≡ true → place_of g t ≡ at
            → Wants at t → id_of net (place_of g from) ≤ id_of net (place_of g f)
        before None lower none f t step place number = absurd (none f t step place number)
        before (Some o) lower is f t step place number = omega (arith, is.least f t step place number, ltb-true _ _ lower)

        taken : IsLowest net g numbers wanted (more passes from to) at (record { from = from; to = to })
        taken = record {
          step = this_step;
          place = refl;
          number = wants;
          least = λ f t step place number. elim (new_step f t step) [
            | inl old ↦ before (entry_at offers at) lower (are.each at low) f t old place number
            | inr new ↦ omega (arith, ap (λ k. id_of net (place_of g k)) new.0)
          ];
        }

    -- the step isn't taken
    pub lowest_kept : (Wants at to → is_lower net g from (entry_at offers at) ≡ false) → AreLowest net g numbers wanted passes offers → AreLowest net g numbers wanted (more passes from to) offers
    lowest_kept off are = record {
      size = are.size;
      each = λ l less. elim (cases_eq l at) [
        | inr there ↦ elsewhere l (entry_at offers l) (inl (λ e. there (sym e))) (are.each l less)
        | inl here ↦ subst (λ k. Lowest (more passes from to) k (entry_at offers k)) (sym here) (by (entry_at offers at) off (are.each at (omega (arith, less, here))))
      ];
    }
      where
        by : (o : Option Offer) → (Wants at to → is_lower net g from o ≡ false) → Lowest passes at o → Lowest (more passes from to) at o
        by None off none = elsewhere at None (inr (λ wants. false≢true (sym (off wants)))) none
        by (Some o) off is = record {
          step = kept_step o.from o.to is.step;
          place = is.place;
          number = is.number;
          least = λ f t step place number. elim (new_step f t step) [
            | inl old ↦ is.least f t old place number
            | inr new ↦ omega (arith, ltb-false _ _ (off (subst (Wants at) new.1 number)), ap (λ k. id_of net (place_of g k)) new.0)
          ];
        }

-- offers come from nodes still
pub of_nodes_there : (g : PlainGraph) (offers : List (Option Offer)) (at from to : ℕ) → at < length offers → from < length g.nodes
    → AreOfNodes g offers → AreOfNodes g (set offers at (Some (record { from = from; to = to })))
of_nodes_there g offers at from to low node are l o is = elim (cases_eq l at) [
  | inl here ↦ (
      let e : Some (record { from = from; to = to }) ≡ Some o = sym (get_or-set_same offers at (Some (record { from = from; to = to })) None low)
      ∙ ap (entry_at (set offers at (Some (record { from = from; to = to })))) (sym here) ∙ is in
      let same : record { from = from; to = to } ≡ o = cc in
      subst (λ (x : Offer). x.from < length g.nodes) same node)
  | inr there ↦ are l o (sym (get_or-set_other offers at l (Some (record { from = from; to = to })) None there) ∙ is)
]

-- a table without offers has the lowest ones where no step passes
pub lowest_first : (net : PlainNet) (g : PlainGraph) (numbers : List ℕ) (wanted : List (Option ℕ)) (passes : ℕ → ℕ → Bool) (count : ℕ) (offers : List (Option Offer))
    → count ≡ 768 → offers ≡ replicate count None → ((f t : ℕ) → passes f t ≡ true → ⊥) → AreLowest net g numbers wanted passes offers
lowest_first net g numbers wanted passes count offers all empty none = record {
  size = ap length empty ∙ length-replicate {A = Option Offer} count None ∙ all;
  each = λ l low. subst (IsLowestOrNone net g numbers wanted passes l) (sym (no_entry offers count empty l)) (λ f t step place number. none f t step);
}

pub of_nodes_first : (g : PlainGraph) (count : ℕ) (offers : List (Option Offer)) → offers ≡ replicate count None → AreOfNodes g offers
of_nodes_first g count offers empty l o is = let clash : None ≡ Some o = sym (no_entry offers count empty l) ∙ is in absurd (cc)
