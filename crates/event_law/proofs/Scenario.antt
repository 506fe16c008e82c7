-- A world's lists say what is down, cut and silent.
use Rattle.std.proofs.Common.{◌≡◌, ℕ, Bool, true, ◌&&◌, ◌||◌, eqb, List, [], ◌∷◌, ◌++◌, length, map, refl, sym, ap, ◌∙◌, inl, inr}
use Rattle.std.specs.Prelude.{filter}
use Rattle.std.specs.List.{list_any}
use Rattle.std.proofs.lemmas.Bool.{and_from, and_parts, cases_Bool, cond-true, cond-false, eq-eqb, eqb-true, ltb-true, or_cases, or_left, or_right}
use Rattle.std.proofs.lemmas.List.Folds.{list_any-append}
use Rattle.net_base.specs.Network.{PlainNet, is_router, joins, linked}
use Rattle.net_base.specs.Locations.{numbers_below}
use Rattle.config_base.specs.declared.route.Route.{Route}
use Rattle.outcome_base.specs.Outcomes.{is_dead, is_dead_link, is_silent}
use Rattle.list_law.proofs.Members.{list_any-from_IsIn}
use Rattle.list_law.proofs.Tests.{list_any-map, list_any_parts}
use Rattle.list_law.proofs.Truth.{same_tests}
use Rattle.event_base.specs.World.{World}
use Rattle.event_base.specs.Steps.{opening, run}
use Rattle.event_law.proofs.Downs.{run-down}
use Rattle.event_law.proofs.Keeping.{opening-keeps, run-keeps}
use Rattle.event_law.specs.Laws.{WorldsHaveScenarios}
use Rattle.event_law.specs.Scenarios.{IsScenarioOf, scenario_of}
use Rattle.event_base.specs.Speaking.{speakers_of}
use Rattle.event_law.proofs.Quiet.{are_speakers}
use Rattle.net_base.proofs.NumbersBelow.{slice_get-numbers_below}

-- of what passes one test, some passes another
any_filtered : {A : Type 0} (p q : A → Bool) (xs : List A) → list_any p (filter q xs) ≡ list_any (λ x. q x && p x) xs
any_filtered p q [] = refl
any_filtered p q (x ∷ xs) = elim (cases_Bool (q x)) [
  | inl t ↦ ap (list_any p) (cond-true (q x) (x ∷ filter q xs) (filter q xs) t) ∙ ap (λ b. p x || b) (any_filtered p q xs) ∙ ap (λ b. (b && p x) || list_any (λ x. q x && p x) xs) (sym t)
  | inr f ↦ ap (list_any p) (cond-false (q x) (x ∷ filter q xs) (filter q xs) f) ∙ any_filtered p q xs ∙ ap (λ b. (b && p x) || list_any (λ x. q x && p x) xs) (sym f)
]

module _ (net : PlainNet) (w : World Route) (both : (a b : ℕ) → w.cut a b ≡ w.cut b a) (downs : (r : ℕ) → w.down r ≡ true → is_router net r ≡ true) where
  dead_is : (l : ℕ) → is_dead (scenario_of net w) l ≡ w.down l
  dead_is l = any_filtered (λ d. eqb d l) w.down (numbers_below (length net.routers)) ∙ same_tests _ (w.down l)
      (λ h. (
      let x = list_any_parts (λ d. w.down d && eqb d l) (numbers_below (length net.routers)) h in
      let parts = and_parts (w.down x.1) (eqb x.1 l) x.3 in
      ap w.down (sym (eqb-true x.1 l parts.1)) ∙ parts.0))
      (λ h. list_any-from_IsIn (λ d. w.down d && eqb d l) (numbers_below (length net.routers)) l
      (l, slice_get-numbers_below (length net.routers) l (ltb-true l (length net.routers) (downs l h)))
      (and_from (w.down l) (eqb l l) h (eq-eqb l l refl)))

  links_is : (a b : ℕ) → linked net a b ≡ true → is_dead_link (scenario_of net w) a b ≡ w.cut a b
  links_is a b on = any_filtered (joins a b) (λ (l : ℕ × ℕ). w.cut l.0 l.1) net.links ∙ same_tests _ (w.cut a b)
      (λ h. (
      let x = list_any_parts (λ (l : ℕ × ℕ). w.cut l.0 l.1 && joins a b l) net.links h in
      let parts = and_parts (w.cut x.1.0 x.1.1) (joins a b x.1) x.3 in
      sym (cut_of x.1 parts.1) ∙ parts.0))
      (λ h. (
      let x = list_any_parts (joins a b) net.links on in
      list_any-from_IsIn (λ (l : ℕ × ℕ). w.cut l.0 l.1 && joins a b l) net.links x.1 (x.0, x.2) (and_from (w.cut x.1.0 x.1.1) (joins a b x.1) (cut_of x.1 x.3 ∙ h) x.3)))
    where
      cut_of : (l : ℕ × ℕ) → joins a b l ≡ true → w.cut l.0 l.1 ≡ w.cut a b
      cut_of l h = elim (or_cases (eqb l.0 a && eqb l.1 b) (eqb l.0 b && eqb l.1 a) h) [
        | inl e ↦ (let p = and_parts (eqb l.0 a) (eqb l.1 b) e in ap (λ z. w.cut z l.1) (eqb-true l.0 a p.0) ∙ ap (w.cut a) (eqb-true l.1 b p.1))
        | inr e ↦ (let p = and_parts (eqb l.0 b) (eqb l.1 a) e in ap (λ z. w.cut z l.1) (eqb-true l.0 b p.0) ∙ ap (w.cut b) (eqb-true l.1 a p.1) ∙ both b a)
      ]

  silent_is : (r q : ℕ) → linked net q r ≡ true → is_silent (scenario_of net w) r q ≡ w.silent r q
  silent_is r q on = any_filtered (λ (s : ℕ × ℕ). eqb s.0 r && eqb s.1 q) (λ (s : ℕ × ℕ). w.silent s.0 s.1) (net.links ++ map (λ (l : ℕ × ℕ). (l.1, l.0)) net.links) ∙ same_tests _ (w.silent r q)
      (λ h. (
      let x = list_any_parts (λ (s : ℕ × ℕ). w.silent s.0 s.1 && (eqb s.0 r && eqb s.1 q)) (net.links ++ map (λ (l : ℕ × ℕ). (l.1, l.0)) net.links) h in
      let parts = and_parts (w.silent x.1.0 x.1.1) _ x.3 in
      let ends = and_parts (eqb x.1.0 r) (eqb x.1.1 q) parts.1 in
      ap (w.silent r) (sym (eqb-true x.1.1 q ends.1)) ∙ ap (λ z. w.silent z x.1.1) (sym (eqb-true x.1.0 r ends.0)) ∙ parts.0))
      (λ h. list_any-append (λ (s : ℕ × ℕ). w.silent s.0 s.1 && (eqb s.0 r && eqb s.1 q)) net.links (map (λ (l : ℕ × ℕ). (l.1, l.0)) net.links) ∙ either h)
    where
      hits : (s : ℕ × ℕ) → Bool
      hits s = w.silent s.0 s.1 && (eqb s.0 r && eqb s.1 q)

      either : w.silent r q ≡ true
          → (list_any (λ (s : ℕ × ℕ). w.silent s.0 s.1 && (eqb s.0 r && eqb s.1 q)) net.links
          || list_any (λ (s : ℕ × ℕ). w.silent s.0 s.1 && (eqb s.0 r && eqb s.1 q)) (map (λ (l : ℕ × ℕ). (l.1, l.0)) net.links)) ≡ true
      either h =
          let x = list_any_parts (joins q r) net.links on in
          elim (or_cases (eqb x.1.0 q && eqb x.1.1 r) (eqb x.1.0 r && eqb x.1.1 q) x.3) [
            | inl e ↦ (
                let p = and_parts (eqb x.1.0 q) (eqb x.1.1 r) e in
                let mute : w.silent x.1.1 x.1.0 ≡ true = ap (λ z. w.silent z x.1.0) (eqb-true x.1.1 r p.1) ∙ ap (w.silent r) (eqb-true x.1.0 q p.0) ∙ h in
                or_right (list_any (λ (s : ℕ × ℕ). w.silent s.0 s.1 && (eqb s.0 r && eqb s.1 q)) net.links) _
                (list_any-map (λ (s : ℕ × ℕ). w.silent s.0 s.1 && (eqb s.0 r && eqb s.1 q)) (λ (l : ℕ × ℕ). (l.1, l.0)) net.links
                ∙ list_any-from_IsIn (λ (l : ℕ × ℕ). w.silent l.1 l.0 && (eqb l.1 r && eqb l.0 q)) net.links x.1 (x.0, x.2)
                (and_from (w.silent x.1.1 x.1.0) _ mute (and_from (eqb x.1.1 r) (eqb x.1.0 q) p.1 p.0))))
            | inr e ↦ (
                let p = and_parts (eqb x.1.0 r) (eqb x.1.1 q) e in
                let mute : w.silent x.1.0 x.1.1 ≡ true = ap (λ z. w.silent z x.1.1) (eqb-true x.1.0 r p.0) ∙ ap (w.silent r) (eqb-true x.1.1 q p.1) ∙ h in
                or_left (list_any (λ (s : ℕ × ℕ). w.silent s.0 s.1 && (eqb s.0 r && eqb s.1 q)) net.links) _
                (list_any-from_IsIn (λ (s : ℕ × ℕ). w.silent s.0 s.1 && (eqb s.0 r && eqb s.1 q)) net.links x.1 (x.0, x.2) (and_from (w.silent x.1.0 x.1.1) _ mute e)))
          ]

  pub is_scenario : IsScenarioOf net w (scenario_of net w)
  is_scenario = record { dead = dead_is; links = links_is; silent = silent_is }

pub worlds_have_scenarios : WorldsHaveScenarios
worlds_have_scenarios net policy config p es rules =
    let S = speakers_of net policy config p in
    let speak = are_speakers net policy config p rules in
    is_scenario net (run S es (opening S)) (run-keeps S speak es (opening S) (opening-keeps S speak)).both (run-down S es)
