-- The fault that is told has the least number of a rule that is broken.
use Rattle.std.proofs.Common.{◌≡◌, ℕ, ◌+◌, List, [], ◌∷◌, Option, Some, None, Result, Ok, Err, Bool, true, not, refl, sym, ap, ap₂, ◌∙◌, map}
use Rattle.std.specs.Prelude.{⊤, IsTrue, ◌||◌, option_map}
use Rattle.std.specs.List.{list_any, position, AllByRecursion}
use Rattle.std.specs.Result.{result_ok}
use Rattle.std.specs.Str.{bytes_eq}
use Rattle.std.proofs.lemmas.Bool.{and_from, and_parts}
use Rattle.list_law.proofs.Each.{AllByRecursion-from_list_any, list_any_breaks, AllByRecursion-not, AllByRecursion-from_not}
use Rattle.list_law.proofs.Positions.{list_any-at_position, list_any-no_position}
use Rattle.net_base.specs.Network.{PlainNet, linked}
use Rattle.net_base.specs.PrefixText.{prefix_spelled}
use Rattle.net_base.specs.Steps.{◌>>=◌, each_from, or_fault}
use Rattle.scenario_reader.specs.declared.parts.Field.{Field}
use Rattle.scenario_reader.specs.declared.parts.Field.TheVariants as field
use Rattle.net_base.proofs.StepLemmas.{bind_ok, err_same, ok_not_err, ok_same, or_fault_ok, or_fault_result_ok}
use Rattle.net_base.proofs.StepOutcomes.{bind_case, each_from-breaks}
use Rattle.json_values.specs.TextRules.{is_known, KeepsBelow}
use Rattle.json_values.proofs.EachStep.{each_from-keeps}
use Rattle.json_values.proofs.FirstRule.{below_3, broken, next, Outcome}
use Rattle.json_values.proofs.StepFaults.{name_err, name_ok, read_err}
use Rattle.scenarios.specs.declared.scenario.Scenario.{Scenario}
use Rattle.scenario_reader.specs.declared.fault.ScenarioFault.{ScenarioFault}
use Rattle.scenario_reader.specs.declared.fault.ScenarioFault.TheVariants.{Unknown, NoLink, NotPeerLink, BadPrefix}
use Rattle.scenario_reader.specs.Faults.{number_of}
use Rattle.scenario_reader.specs.Laws.{are_known, passes, rules, HasPrefix, NamesAreKnown}
use Rattle.scenario_reader.specs.Rules.{both_located, is_session, judged, links_known, located, no_fault, sessions_known, set_of_all, turned}
use Rattle.location_names.specs.Names.{names_of}
use Rattle.scenario_reader.specs.Shape.{each, Ends, Said}

-- ---- which step decided

no_fault-ok : {A : Type 0} (told : A → ScenarioFault) (o : Option A) (x : ⊤) → no_fault (option_map told o) ≡ Ok x → o ≡ None
no_fault-ok told None x h = refl
no_fault-ok told (Some y) x h = absurd cc

no_fault-err : {A : Type 0} (told : A → ScenarioFault) (o : Option A) (f : ScenarioFault) → no_fault (option_map told o) ≡ Err f → (x : A) × (o ≡ Some x) × (told x ≡ f)
no_fault-err told None f h = absurd cc
no_fault-err told (Some x) f h = (x, refl, cc)

module _ (net : PlainNet) where
  -- ---- names

  abbrev place : List ℕ → Option ℕ
  place name = position (bytes_eq name) (names_of net)

  located-keeps : (f : Field) (k : ℕ) (name : List ℕ) (a : ℕ) → located (names_of net) f name ≡ Ok a → is_known (names_of net) name ≡ true
  unfolding located
  located-keeps f k name a h = name_ok (Unknown f) (names_of net) name a h

  located-breaks : (f : Field) (k : ℕ) (name : List ℕ) (e : ScenarioFault) → located (names_of net) f name ≡ Err e → (is_known (names_of net) name ≡ true → ⊥) × (number_of e ≡ 3)
  unfolding located
  located-breaks f k name e h = let q = name_err (Unknown f) e (names_of net) name h in (q.0, ap number_of (sym q.1))

  -- the places of two names
  abbrev AreAt : Ends → ℕ × ℕ → Type 0
  AreAt e p = (place e.from ≡ Some p.0) × (place e.to ≡ Some p.1)

  both-at : (f : Field) (e : Ends) (p : ℕ × ℕ) → both_located (names_of net) f e ≡ Ok p → AreAt e p
  unfolding both_located
  both-at f e p h =
      let a = bind_ok (or_fault (Unknown f) (place e.from)) _ p h in
      let b = bind_ok (or_fault (Unknown f) (place e.to)) _ p a.2 in
      let same = ok_same (a.0, b.0) p b.2 in
      (or_fault_ok (Unknown f) (place e.from) a.0 a.1 ∙ ap (λ q. Some q.0) same, or_fault_ok (Unknown f) (place e.to) b.0 b.1 ∙ ap (λ q. Some q.1) same)

  both-keeps : (f : Field) (k : ℕ) (e : Ends) (p : ℕ × ℕ) → both_located (names_of net) f e ≡ Ok p → are_known net e ≡ true
  both-keeps f k e p h =
      let at = both-at f e p h in
      and_from (is_known (names_of net) e.from) (is_known (names_of net) e.to) (list_any-at_position (bytes_eq e.from) (names_of net) p.0 at.0)
      (list_any-at_position (bytes_eq e.to) (names_of net) p.1 at.1)

  both-breaks : (f : Field) (k : ℕ) (e : Ends) (d : ScenarioFault) → both_located (names_of net) f e ≡ Err d → (are_known net e ≡ true → ⊥) × (number_of d ≡ 3)
  unfolding both_located
  both-breaks f k e d h =
      bind_case ((are_known net e ≡ true → ⊥) × (number_of d ≡ 3)) (or_fault (Unknown f) (place e.from)) _ (Err d) h
      (λ c p same. let q =
      name_err (Unknown f) c
      (names_of net) e.from p in ((λ t. q.0 (and_parts (is_known (names_of net) e.from) (is_known (names_of net) e.to) t).0), ap number_of (err_same d c same ∙ sym q.1)))
      (λ a _ g. bind_case ((are_known net e ≡ true → ⊥) × (number_of d ≡ 3)) (or_fault (Unknown f) (place e.to)) _ (Err d) g
      (λ c p same. let q =
      name_err (Unknown f) c
      (names_of net) e.to p in ((λ t. q.0 (and_parts (is_known (names_of net) e.from) (is_known (names_of net) e.to) t).1), ap number_of (err_same d c same ∙ sym q.1)))
      (λ b _ k. absurd (ok_not_err (a, b) d k)))

  -- ---- pairs

  abbrev AllAt : List Ends → List (ℕ × ℕ) → Type 0
  AllAt [] [] = Unit {0}
  AllAt [] (p ∷ ps) = ⊥
  AllAt (e ∷ es) [] = ⊥
  AllAt (e ∷ es) (p ∷ ps) = AreAt e p × AllAt es ps

  all-at : (f : Field) (k : ℕ) (es : List Ends) (ps : List (ℕ × ℕ)) → each_from (λ _. both_located (names_of net) f) k es ≡ Ok ps → AllAt es ps
  all-at f k [] ps h = rw (← ok_same [] ps h) tt
  all-at f k (e ∷ es) ps h =
      let p = bind_ok (both_located (names_of net) f e) (λ y. each_from (λ _. both_located (names_of net) f) (k + 1) es >>= (λ ys. Ok (y ∷ ys))) ps h in
      let q = bind_ok (each_from (λ _. both_located (names_of net) f) (k + 1) es) (λ ys. Ok (p.0 ∷ ys)) ps p.2 in
      rw (← ok_same (p.0 ∷ q.0) ps q.2) (both-at f e p.0 p.1, all-at f (k + 1) es q.0 q.1)

  module _ (test : ℕ × ℕ → Bool) where
    -- a test of the locations is one of the names
    test_at : (e : Ends) (p : ℕ × ℕ) → AreAt e p → passes net test e ≡ test p
    test_at e p at = rw (at.0, at.1) refl

    any_at : (es : List Ends) (ps : List (ℕ × ℕ)) → AllAt es ps → list_any (λ p. not (test p)) ps ≡ list_any (λ e. not (passes net test e)) es
    any_at [] [] at = refl
    any_at [] (p ∷ ps) at = absurd at
    any_at (e ∷ es) [] at = absurd at
    any_at (e ∷ es) (p ∷ ps) at = ap₂ (λ (a b : Bool). not a || b) (sym (test_at e p at.0)) (any_at es ps at.1)

    module _ (told : ℕ → ScenarioFault) (es : List Ends) (ps : List (ℕ × ℕ)) (at : AllAt es ps) where
      told-keeps : no_fault (option_map told (position (λ p. not (test p)) ps)) ≡ Ok tt → AllByRecursion (λ e. IsTrue (passes net test e)) es
      told-keeps h =
          AllByRecursion-from_not (passes net test) es
          (AllByRecursion-from_list_any (λ e. not (passes net test e)) es
          (sym (any_at es ps at) ∙ list_any-no_position (λ p. not (test p)) ps (no_fault-ok told (position (λ p. not (test p)) ps) tt h)))

      told-breaks : (e : ScenarioFault) → no_fault (option_map told (position (λ p. not (test p)) ps)) ≡ Err e → (AllByRecursion (λ e. IsTrue (passes net test e)) es → ⊥) × ((i : ℕ) × (told i ≡ e))
      told-breaks e h =
          let q = no_fault-err told (position (λ p. not (test p)) ps) e h in (
            (λ a. list_any_breaks (λ e. not (passes net test e)) es (sym (any_at es ps at) ∙ list_any-at_position (λ p. not (test p)) ps q.0 q.1) (AllByRecursion-not (passes net test) es a)),
            (q.0, q.2),
          )

-- ---- one rule after the other

-- the rules behind the names
located_outcome : (net : PlainNet) (said : Said) (dead : List ℕ) (links pairs : List (ℕ × ℕ)) → AllAt net said.dead_links links
    → AllAt net said.silent pairs → KeepsBelow (rules net said) 4 → (y : Result Scenario ScenarioFault)
    → (links_known net links >>= (λ _. sessions_known net pairs >>= (λ _. or_fault BadPrefix (result_ok (prefix_spelled said.prefix)) >>= (λ prefix.
    Ok (record { prefix = prefix; dead = set_of_all dead; dead_links = links; silent = map (turned net) pairs }))))) ≡ y → Outcome (rules net said) number_of y
unfolding links_known sessions_known
located_outcome net said dead links pairs at others below y h =
    bind_case (Outcome (rules net said) number_of y) (links_known net links) _ y h
    (λ e p same. let q =
    told-breaks net (λ p. linked net p.0 p.1) (λ i. NoLink (i + 1)) said.dead_links links at e p in broken (rules net said) number_of 4 y e below
    (q.0, ap number_of (sym q.1.1)) same)
    (λ _ p g.
    let below_5 = next (rules net said) 4 below (told-keeps net (λ p. linked net p.0 p.1) (λ i. NoLink (i + 1)) said.dead_links links at p) in
    bind_case (Outcome (rules net said) number_of y) (sessions_known net pairs) _ y g
    (λ e p same. let q =
    told-breaks net (is_session net) (λ i. NotPeerLink (i + 1)) said.silent pairs others e p in broken (rules net said) number_of 5 y e below_5
    (q.0, ap number_of (sym q.1.1)) same)
    (λ _ p g.
    let below_6 = next (rules net said) 5 below_5 (told-keeps net (is_session net) (λ i. NotPeerLink (i + 1)) said.silent pairs others p) in
    bind_case (Outcome (rules net said) number_of y) (or_fault BadPrefix (result_ok (prefix_spelled said.prefix))) _ y g
    (λ e p same. let q = read_err BadPrefix e (prefix_spelled said.prefix) p in broken (rules net said) number_of 6 y e below_6 ((λ k. q.0 k.0 k.1), ap number_of (sym q.1)) same)
    (λ prefix p g.
    let there : HasPrefix said = (prefix, or_fault_result_ok BadPrefix (prefix_spelled said.prefix) prefix p) in
    rw (← g) (next (rules net said) 6 below_6 there))))

pub judged_outcome : (net : PlainNet) (said : Said) (y : Result Scenario ScenarioFault) → judged net said ≡ y → Outcome (rules net said) number_of y
unfolding judged
judged_outcome net said y h =
    let names = names_of net in
    let three = λ (e : ScenarioFault). number_of e ≡ 3 in
    let one = λ (name : List ℕ). is_known names name ≡ true in
    let two = λ (e : Ends). are_known net e ≡ true in
    bind_case (Outcome (rules net said) number_of y) (each (located names field.Dead) said.dead) _ y h
    (λ e p same. let q =
    each_from-breaks one three (λ _. located names field.Dead) (located-breaks net field.Dead) 1 said.dead e p in broken
    (rules net said) number_of 3 y e (below_3 (rules net said)) ((λ k. q.0 k.0), q.1) same)
    (λ dead dp g.
    bind_case (Outcome (rules net said) number_of y) (each (both_located names field.DeadLinks) said.dead_links) _ y g
    (λ e p same. let q =
    each_from-breaks two three (λ _. both_located names field.DeadLinks) (both-breaks net field.DeadLinks) 1 said.dead_links e p in broken
    (rules net said) number_of 3 y e (below_3 (rules net said)) ((λ k. q.0 k.1), q.1) same)
    (λ links lp g.
    bind_case (Outcome (rules net said) number_of y) (each (both_located names field.Silent) said.silent) _ y g
    (λ e p same. let q =
    each_from-breaks two three (λ _. both_located names field.Silent) (both-breaks net field.Silent) 1 said.silent e p in broken
    (rules net said) number_of 3 y e (below_3 (rules net said)) ((λ k. q.0 k.2), q.1) same)
    (λ pairs pp g.
    let keeps : NamesAreKnown net said = (
      each_from-keeps one (λ _. located names field.Dead) (located-keeps net field.Dead) 1 said.dead dead dp,
      each_from-keeps two (λ _. both_located names field.DeadLinks) (both-keeps net field.DeadLinks) 1 said.dead_links links lp,
      each_from-keeps two (λ _. both_located names field.Silent) (both-keeps net field.Silent) 1 said.silent pairs pp,
    ) in
    located_outcome net said dead links pairs (all-at net field.DeadLinks 1 said.dead_links links lp) (all-at net field.Silent 1 said.silent pairs pp)
    (next (rules net said) 3 (below_3 (rules net said)) keeps) y g)))
