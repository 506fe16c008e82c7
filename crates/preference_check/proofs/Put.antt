-- What a node offers once something is put behind its offers.
use Rattle.std.proofs.Common.{◌≡◌, ℕ, ◌+◌, ◌<◌, ◌&&◌, ◌||◌, eqb, ltb, List, [], ◌∷◌, ◌++◌, Option, Some, None, length, get_or, set, sym, ap, ◌∙◌, inl, inr}
use Rattle.std.proofs.lemmas.Bool.{cases_eq, eq-eqb, ne_eqb}
use Rattle.std.proofs.lemmas.List.{get_or-set_same, get_or-set_other}
use Rattle.std.proofs.lemmas.List.Folds.{list_any-append}
use Rattle.std.proofs.Math.Bool.{and-false, or-false}
use Rattle.net_base.specs.declared.loc.LocSet.{LocSet}
use Rattle.graph_base.specs.Graphs.{PlainGraph}
use Rattle.preference_check.specs.Offers.{is_good, is_offer, is_offered, offer_by_rank, offers_of}
use Rattle.preference_check.specs.declared.offers.Offer.{Offer}
use Rattle.preference_check.proofs.RunLemmas.{one_more}

-- nothing is put
pub put_none : (offers : List (List Offer)) (node : ℕ) (offer : Option Offer) → offer ≡ None → (n at cost : ℕ)
    → is_offered (offers_of offers n) at cost ≡ (is_offered (offers_of offers n) at cost || (eqb node n && is_good offer at cost))
put_none offers node offer none n at cost =
    sym (ap (λ o. is_offered (offers_of offers n) at cost || (eqb node n && is_good o at cost)) none ∙ ap (λ b. is_offered (offers_of offers n) at cost || b) (and-false (eqb node n)) ∙ or-false _)

-- one offer is put
pub put_some : (offers : List (List Offer)) (node : ℕ) (offer : Option Offer) (o : Offer) (new : List Offer) → node < length offers → offer ≡ Some o
    → new ≡ get_or offers node [] ++ o ∷ [] → (n at cost : ℕ)
    → is_offered (offers_of (set offers node new) n) at cost ≡ (is_offered (offers_of offers n) at cost || (eqb node n && is_good offer at cost))
put_some offers node offer o new within is pushed n at cost = elim (cases_eq node n) [
  | inl e ↦ (
      let here : get_or (set offers node new) n [] ≡ get_or offers n [] ++ o ∷ [] =
      ap (λ k. get_or (set offers node new) k []) (sym e) ∙ get_or-set_same offers node new [] within ∙ pushed ∙ ap (λ k. get_or offers k [] ++ o ∷ []) e in
      ap (λ l. is_offered l at cost) here ∙ list_any-append (is_offer at cost) (get_or offers n []) (o ∷ [])
      ∙ ap (λ b. is_offered (get_or offers n []) at cost || b) (or-false (is_offer at cost o) ∙ sym (ap (λ x. is_good x at cost) is) ∙ sym (ap (λ b. b && is_good offer at cost) (eq-eqb node n e))))
  | inr ne ↦
      ap (λ l. is_offered l at cost) (get_or-set_other offers node n new [] (λ e. ne (sym e)))
      ∙ sym (ap (λ b. is_offered (offers_of offers n) at cost || (b && is_good offer at cost)) (ne_eqb node n ne) ∙ or-false _)
]

-- what a node is worth at a claimed location is put, node by node
pub put_rank : (g : PlainGraph) (claimed : LocSet) (node : ℕ) (offer : Option Offer) → offer ≡ offer_by_rank g claimed node → (n at cost : ℕ)
    → ((ltb n node && is_good (offer_by_rank g claimed n) at cost) || (eqb node n && is_good offer at cost)) ≡ (ltb n (node + 1) && is_good (offer_by_rank g claimed n) at cost)
put_rank g claimed node offer is n at cost = one_more n node (is_good (offer_by_rank g claimed n) at cost) (eqb node n && is_good offer at cost)
    (λ e. sym (ap (λ b. b && is_good offer at cost) (eq-eqb node n (sym e)) ∙ ap (λ o. is_good o at cost) (is ∙ ap (offer_by_rank g claimed) (sym e))))
    (λ apart. ap (λ b. b && is_good offer at cost) (ne_eqb node n (λ e. apart (sym e))))
