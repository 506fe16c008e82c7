-- A node keeps a rule with another exactly where it offers at least as well.
use Rattle.std.proofs.Common.{◌≡◌, ◌↔◌, ℕ, ◌-◌, ◌<◌, ◌≤◌, Bool, true, false, not, ◌&&◌, cond, eqb, leb, List, Option, Some, None, length, get_or, inl, inr, refl, sym, ap}
use Rattle.std.proofs.Common.{◌∙◌, arith, IsTrue, le-leb, leb-true}
use Rattle.std.specs.List.{list_any}
use Rattle.std.specs.Option.{option_map, unwrap_or}
use Rattle.std.proofs.lemmas.Option.{slice_get-get_or, slice_get_past}
use Rattle.std.proofs.lemmas.List.{get_or_past}
use Rattle.std.proofs.lemmas.Bool.{cases_lt, and_parts, and_from, eq-eqb, eqb-true, not-true, not_from_false}
use Rattle.list_law.proofs.Members.{list_any_member, list_any-from_IsIn}
use Rattle.net_base.specs.Network.{PlainNet}
use Rattle.net_base.specs.Sets.{holds}
use Rattle.net_base.specs.declared.loc.LocSet.{LocSet}
use Rattle.graph_base.specs.Graphs.{PlainGraph}
use Rattle.graph_base.specs.Rules.{KeepsListener, KeepsRank, KeepsStep}
use Rattle.graph_base.specs.Runs.{has_step, is_listener, place_of, rank_at}
use Rattle.graph_base.specs.Preferences.{number_in}
use Rattle.preference_check.specs.Offers.{KeepsOffers, is_good, is_offered, offer_by_rank, offer_by_step, offer_of_rank, offers_of}
use Rattle.preference_check.specs.declared.offers.Offer.{Offer}
use Rattle.preference_check.specs.declared.offers.Towards.{Towards}
use Rattle.preference_check.specs.declared.offers.Towards.TheVariants.{Listeners, Routers}

-- an offer that is made on a condition
good_when : (b : Bool) (o : Option Offer) (at cost : ℕ) → is_good (cond b o None) at cost ≡ true → (b ≡ true) × (is_good o at cost ≡ true)
good_when true o at cost h = (refl, h)
good_when false o at cost h = absurd (cc)

good_unless : (b : Bool) (o : Option Offer) (at cost : ℕ) → is_good (cond b None o) at cost ≡ true → (b ≡ false) × (is_good o at cost ≡ true)
good_unless true o at cost h = absurd (cc)
good_unless false o at cost h = (refl, h)

when_good : (b : Bool) (o : Option Offer) (at cost : ℕ) → b ≡ true → is_good o at cost ≡ true → is_good (cond b o None) at cost ≡ true
when_good b o at cost on h = ap (λ c. is_good (cond c o None) at cost) on ∙ h

unless_good : (b : Bool) (o : Option Offer) (at cost : ℕ) → b ≡ false → is_good o at cost ≡ true → is_good (cond b None o) at cost ≡ true
unless_good b o at cost off h = ap (λ c. is_good (cond c None o) at cost) off ∙ h

-- the number of a node as the list gives it
pub number_read : (numbers : List ℕ) (k : ℕ) → number_in numbers k ≡ get_or numbers k 0
number_read numbers k = elim (cases_lt k (length numbers)) [
  | inl t ↦ ap (λ o. unwrap_or o 0) (slice_get-get_or numbers k 0 t)
  | inr t ↦ ap (λ o. unwrap_or o 0) (slice_get_past numbers k t) ∙ sym (get_or_past numbers k 0 t)
]

-- ---- ranks

ranked_parts : (g : PlainGraph) (n at cost : ℕ) → is_good (offer_of_rank g n) at cost ≡ true → (i : ℕ) × (rank_at g n ≡ Some i) × (place_of g n ≡ at) × (i ≤ cost)
ranked_parts g n at cost = by (rank_at g n)
  where
    by : (o : Option ℕ) → is_good (option_map (λ rank. record { at = place_of g n; cost = rank }) o) at cost ≡ true → (i : ℕ) × (o ≡ Some i) × (place_of g n ≡ at) × (i ≤ cost)
    by None h = absurd (cc)
    by (Some i) h = let parts = and_parts (eqb (place_of g n) at) (leb i cost) h in (i, refl, eqb-true _ _ parts.0, leb-true i cost parts.1)

ranked_from : (g : PlainGraph) (n i at cost : ℕ) → rank_at g n ≡ Some i → place_of g n ≡ at → i ≤ cost → is_good (offer_of_rank g n) at cost ≡ true
ranked_from g n i at cost is place le =
    ap (λ o. is_good (option_map (λ rank. record { at = place_of g n; cost = rank }) o) at cost) is
    ∙ and_from (eqb (place_of g n) at) (leb i cost) (eq-eqb _ _ place) (le-leb i cost le)

module _ (net : PlainNet) (g : PlainGraph) (numbers : List ℕ) (claimed : LocSet) (offers : List (List Offer))
    (are : (n at cost : ℕ) → n < length g.nodes → is_offered (offers_of offers n) at cost ≡ is_good (offer_by_rank g claimed n) at cost) where
  pub ranks_match : (m n : ℕ) → KeepsOffers net g (number_in numbers) offers m n ↔ KeepsRank net (λ l. IsTrue (holds claimed l)) g (number_in numbers) m n
  ranks_match m n = (
    λ keeps i over at_claimed rank.
        let offered = are n (place_of g n) i over.worse
        ∙ when_good (holds claimed (place_of g n)) (offer_of_rank g n) (place_of g n) i at_claimed
        (ranked_from g n i (place_of g n) i rank refl (omega arith)) in
        let found = ranked_parts g m (place_of g n) i (good_when (holds claimed (place_of g m)) (offer_of_rank g m) (place_of g n) i
        (sym (are m (place_of g n) i over.better) ∙ keeps over (place_of g n) i offered)).1 in
        (found.0, found.1, found.3),
    λ keeps over at cost offered.
        let good = good_when (holds claimed (place_of g n)) (offer_of_rank g n) at cost (sym (are n at cost over.worse) ∙ offered) in
        let found = ranked_parts g n at cost good.1 in
        let best = keeps found.0 over good.0 found.1 in
        are m at cost over.better
        ∙ when_good (holds claimed (place_of g m)) (offer_of_rank g m) at cost (ap (holds claimed) over.place ∙ good.0)
        (ranked_from g m best.0 at cost best.1 (over.place ∙ found.2) (omega (arith, best.2, found.3))),
  )

-- ---- steps

module _ (net : PlainNet) (g : PlainGraph) (numbers : List ℕ) (towards : Towards) (offers : List (List Offer))
    (are : (n at cost : ℕ) → is_offered (offers_of offers n) at cost ≡ list_any (λ (s : ℕ × ℕ). eqb s.0 n && is_good (offer_by_step g numbers towards s.1) at cost) g.steps) where
  offered_parts : (n at cost : ℕ) → is_offered (offers_of offers n) at cost ≡ true → (t : ℕ) × (has_step g n t ≡ true) × (is_good (offer_by_step g numbers towards t) at cost ≡ true)
  offered_parts n at cost h =
      let found = list_any_member (λ (s : ℕ × ℕ). eqb s.0 n && is_good (offer_by_step g numbers towards s.1) at cost) g.steps (sym (are n at cost) ∙ h) in
      let s = found.0 in
      let parts = and_parts (eqb s.0 n) (is_good (offer_by_step g numbers towards s.1) at cost) found.2 in
      (s.1, list_any-from_IsIn (λ (x : ℕ × ℕ). eqb x.0 n && eqb x.1 s.1) g.steps s found.1 (and_from (eqb s.0 n) (eqb s.1 s.1) parts.0 (eq-eqb _ _ refl)), parts.1)

  offered_from : (n t at cost : ℕ) → has_step g n t ≡ true → is_good (offer_by_step g numbers towards t) at cost ≡ true → is_offered (offers_of offers n) at cost ≡ true
  offered_from n t at cost h good =
      let found = list_any_member (λ (s : ℕ × ℕ). eqb s.0 n && eqb s.1 t) g.steps h in
      let s = found.0 in
      let parts = and_parts (eqb s.0 n) (eqb s.1 t) found.2 in
      let there = ap (λ k. is_good (offer_by_step g numbers towards k) at cost) (eqb-true s.1 t parts.1) ∙ good in
      are n at cost ∙ list_any-from_IsIn (λ (x : ℕ × ℕ). eqb x.0 n && is_good (offer_by_step g numbers towards x.1) at cost) g.steps s found.1 (and_from (eqb s.0 n) _ parts.0 there)

module _ (net : PlainNet) (g : PlainGraph) (numbers : List ℕ) (offers : List (List Offer)) (fit : (k : ℕ) → number_in numbers k ≤ 4294967295)
    (are : (n at cost : ℕ) → is_offered (offers_of offers n) at cost ≡ list_any (λ (s : ℕ × ℕ). eqb s.0 n && is_good (offer_by_step g numbers Routers s.1) at cost) g.steps) where
  router_parts : (t at cost : ℕ) → is_good (offer_by_step g numbers Routers t) at cost ≡ true → (is_listener g t ≡ false) × (place_of g t ≡ at) × (4294967295 - number_in numbers t ≤ cost)
  router_parts t at cost h =
      let good = good_unless (is_listener g t) (Some (record { at = place_of g t; cost = 4294967295 - number_in numbers t })) at cost h in
      let parts = and_parts (eqb (place_of g t) at) (leb (4294967295 - number_in numbers t) cost) good.1 in
      (good.0, eqb-true _ _ parts.0, leb-true _ _ parts.1)

  router_from : (t at cost : ℕ) → is_listener g t ≡ false → place_of g t ≡ at → 4294967295 - number_in numbers t ≤ cost → is_good (offer_by_step g numbers Routers t) at cost ≡ true
  router_from t at cost off place le =
      unless_good (is_listener g t) (Some (record { at = place_of g t; cost = 4294967295 - number_in numbers t })) at cost off
      (and_from (eqb (place_of g t) at) (leb (4294967295 - number_in numbers t) cost) (eq-eqb _ _ place) (le-leb _ _ le))

  pub steps_match : (m n : ℕ) → KeepsOffers net g (number_in numbers) offers m n ↔ KeepsStep net g (number_in numbers) m n
  steps_match m n = (
    λ keeps t over on.
        let step = and_parts (has_step g n t) (not (is_listener g t)) on in
        let cost = 4294967295 - number_in numbers t in
        let offered = offered_from net g numbers Routers offers are n t (place_of g t) cost step.0 (router_from t (place_of g t) cost (not-true _ step.1) refl (omega arith)) in
        let found = offered_parts net g numbers Routers offers are m (place_of g t) cost (keeps over (place_of g t) cost offered) in
        let parts = router_parts found.0 (place_of g t) cost found.2 in
        (found.0, and_from (has_step g m found.0) (not (is_listener g found.0)) found.1 (not_from_false _ parts.0), parts.1, omega (arith, parts.2, fit t)),
    λ keeps over at cost offered.
        let found = offered_parts net g numbers Routers offers are n at cost offered in
        let parts = router_parts found.0 at cost found.2 in
        let best = keeps found.0 over (and_from (has_step g n found.0) (not (is_listener g found.0)) found.1 (not_from_false _ parts.0)) in
        let step = and_parts (has_step g m best.0) (not (is_listener g best.0)) best.1 in
        offered_from net g numbers Routers offers are m best.0 at cost step.0 (router_from best.0 at cost (not-true _ step.1) (best.2 ∙ parts.1) (omega (arith, best.3, parts.2))),
  )

module _ (net : PlainNet) (external : Bool) (g : PlainGraph) (numbers : List ℕ) (offers : List (List Offer)) (internal : external ≡ false)
    (are : (n at cost : ℕ) → is_offered (offers_of offers n) at cost ≡ list_any (λ (s : ℕ × ℕ). eqb s.0 n && is_good (offer_by_step g numbers Listeners s.1) at cost) g.steps) where
  pub listeners_match : (m n : ℕ) → KeepsOffers net g (number_in numbers) offers m n ↔ KeepsListener net external g (number_in numbers) m n
  listeners_match m n = (
    λ keeps t i inside over heard rank.
        let step = and_parts (has_step g n t) (is_listener g t) heard in
        let offered = offered_from net g numbers Listeners offers are n t (place_of g t) i step.0
        (when_good (is_listener g t) (offer_of_rank g t) (place_of g t) i step.1 (ranked_from g t i (place_of g t) i rank refl (omega arith))) in
        let found = offered_parts net g numbers Listeners offers are m (place_of g t) i (keeps over (place_of g t) i offered) in
        let good = good_when (is_listener g found.0) (offer_of_rank g found.0) (place_of g t) i found.2 in
        let best = ranked_parts g found.0 (place_of g t) i good.1 in
        (found.0, best.0, and_from (has_step g m found.0) (is_listener g found.0) found.1 good.0, best.2, best.1, best.3),
    λ keeps over at cost offered.
        let found = offered_parts net g numbers Listeners offers are n at cost offered in
        let good = good_when (is_listener g found.0) (offer_of_rank g found.0) at cost found.2 in
        let rank = ranked_parts g found.0 at cost good.1 in
        let best = keeps found.0 rank.0 internal over (and_from (has_step g n found.0) (is_listener g found.0) found.1 good.0) rank.1 in
        let step = and_parts (has_step g m best.0) (is_listener g best.0) best.2 in
        offered_from net g numbers Listeners offers are m best.0 at cost step.0 (when_good (is_listener g best.0) (offer_of_rank g best.0) at cost
        step.1 (ranked_from g best.0 best.1 at cost best.4 (best.3 ∙ rank.2) (omega (arith, best.5, rank.3)))),
  )
