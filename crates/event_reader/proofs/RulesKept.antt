-- The fault that is told has the least number of a rule that is broken.
use Rattle.std.proofs.Common.{◌≡◌, ◌∙◌, ℕ, List, length, Result, Ok, Err, true, sym, ap}
use Rattle.std.specs.Prelude.{IsTrue, nat_le}
use Rattle.std.specs.Result.{result_ok}
use Rattle.std.proofs.lemmas.Bool.{and_from, and_parts, le-leb, leb-true, true≢false}
use Rattle.json_values.specs.TextRules.{is_known}
use Rattle.json_values.proofs.EachStep.{each_from-keeps}
use Rattle.json_values.proofs.FirstRule.{below_3, broken, next, Outcome}
use Rattle.json_values.proofs.StepFaults.{name_err, name_ok, read_err}
use Rattle.net_base.specs.Network.{PlainNet}
use Rattle.net_base.specs.PrefixText.{prefix_spelled}
use Rattle.net_base.specs.Steps.{each_from, or_fault, unless}
use Rattle.net_base.proofs.StepLemmas.{bind_ok, err_same, ok_not_err, or_fault_result_ok, unless_ok}
use Rattle.net_base.proofs.StepOutcomes.{bind_case, each_from-breaks, unless_err}
use Rattle.location_names.specs.Names.{names_of}
use Rattle.event_base.specs.declared.event.Event.{Event}
use Rattle.event_reader.specs.declared.events.Events.{Events}
use Rattle.event_reader.specs.declared.fault.EventsFault.{EventsFault}
use Rattle.event_reader.specs.declared.fault.EventsFault.TheVariants.{BadPrefix, TooMany, Unknown}
use Rattle.event_reader.specs.declared.limits.TheConstants.{EVENTS}
use Rattle.event_reader.specs.Faults.{number_of}
use Rattle.event_reader.specs.Laws.{has_names, rules, HasPrefix}
use Rattle.event_reader.specs.Rules.{judged, located, placed}
use Rattle.event_reader.specs.Shape.{SaidEvent, OnLink, AtRouter, Said}

module _ (net : PlainNet) where
  abbrev names : List (List ℕ)
  names = names_of net

  located-keeps : (place : ℕ) (name : List ℕ) (l : ℕ) → located names place name ≡ Ok l → is_known names name ≡ true
  unfolding located
  located-keeps place name l h = name_ok (Unknown place) names name l h

  located-breaks : (place : ℕ) (name : List ℕ) (e : EventsFault) → located names place name ≡ Err e → (is_known names name ≡ true → ⊥) × (number_of e ≡ 4)
  unfolding located
  located-breaks place name e h = let q = name_err (Unknown place) e names name h in (q.0, ap number_of (sym q.1))

  placed-keeps : (place : ℕ) (said : SaidEvent) (e : Event) → placed names place said ≡ Ok e → has_names net said ≡ true
  unfolding placed
  placed-keeps place (OnLink word first second) e h =
      let a = bind_ok (located names place first) _ e h in
      let b = bind_ok (located names place second) _ e a.2 in
      and_from (is_known names first) (is_known names second) (located-keeps place first a.0 a.1) (located-keeps place second b.0 b.1)
  placed-keeps place (AtRouter word router) e h = let r = bind_ok (located names place router) _ e h in located-keeps place router r.0 r.1

  placed-breaks : (place : ℕ) (said : SaidEvent) (e : EventsFault) → placed names place said ≡ Err e → (has_names net said ≡ true → ⊥) × (number_of e ≡ 4)
  unfolding placed
  placed-breaks place (OnLink word first second) e h =
      bind_case ((has_names net (OnLink word first second) ≡ true → ⊥) × (number_of e ≡ 4)) (located names place first) _ (Err e) h
      (λ d p same. let q = located-breaks place first d p in ((λ t. q.0 (and_parts (is_known names first) (is_known names second) t).0), ap number_of (err_same e d same) ∙ q.1))
      (λ a _ g. bind_case ((has_names net (OnLink word first second) ≡ true → ⊥) × (number_of e ≡ 4)) (located names place second) _ (Err e) g
      (λ d p same. let q = located-breaks place second d p in ((λ t. q.0 (and_parts (is_known names first) (is_known names second) t).1), ap number_of (err_same e d same) ∙ q.1))
      (λ b _ k. absurd (ok_not_err _ e k)))
  placed-breaks place (AtRouter word router) e h =
      bind_case ((has_names net (AtRouter word router) ≡ true → ⊥) × (number_of e ≡ 4)) (located names place router) _ (Err e) h
      (λ d p same. let q = located-breaks place router d p in (q.0, ap number_of (err_same e d same) ∙ q.1))
      (λ r _ k. absurd (ok_not_err _ e k))

pub judged_outcome : (net : PlainNet) (said : Said) (y : Result Events EventsFault) → judged net said ≡ y → Outcome (rules net said) number_of y
unfolding judged
judged_outcome net said y h =
    let all = rules net said in
    let known = λ (e : SaidEvent). IsTrue (has_names net e) in
    let few = nat_le (length said.events) EVENTS in
    bind_case (Outcome all number_of y) (unless (TooMany (length said.events)) few) _ y h
    (λ e p same. let q = unless_err (TooMany (length said.events)) e few p in
    broken all number_of 3 y e (below_3 all) ((λ k. true≢false (sym (le-leb (length said.events) EVENTS k) ∙ q.1)), ap number_of (sym q.0)) same)
    (λ u p g.
    let below_4 = next all 3 (below_3 all) (leb-true (length said.events) EVENTS (unless_ok (TooMany (length said.events)) few u p)) in
    bind_case (Outcome all number_of y) (each_from (placed (names_of net)) 1 said.events) _ y g
    (λ e p same. broken all number_of 4 y e below_4 (each_from-breaks known (λ f. number_of f ≡ 4) (placed (names_of net)) (placed-breaks net) 1 said.events e p) same)
    (λ events p g.
    let below_5 = next all 4 below_4 (each_from-keeps known (placed (names_of net)) (placed-keeps net) 1 said.events events p) in
    bind_case (Outcome all number_of y) (or_fault BadPrefix (result_ok (prefix_spelled said.prefix))) _ y g
    (λ e p same. let q = read_err BadPrefix e (prefix_spelled said.prefix) p in broken all number_of 5 y e below_5 ((λ k. q.0 k.0 k.1), ap number_of (sym q.1)) same)
    (λ prefix p g.
    let there : HasPrefix said = (prefix, or_fault_result_ok BadPrefix (prefix_spelled said.prefix) prefix p) in
    rw (← g) (next all 5 below_5 there))))
