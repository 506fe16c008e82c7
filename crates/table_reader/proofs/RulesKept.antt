-- The fault that is told has the least number of a rule that is broken.
use Rattle.std.proofs.Common.{◌≡◌, ◌∙◌, ℕ, ◌+◌, List, [], ◌∷◌, length, Option, Some, None, Result, Ok, Err, Bool, true, false, refl, sym, ap, subst}
use Rattle.std.specs.Prelude.{◌==◌, slice_get}
use Rattle.std.specs.List.{position}
use Rattle.std.specs.Str.{bytes_eq}
use Rattle.std.proofs.lemmas.Bool.{eq-eqb, eqb-true, true≢false}
use Rattle.json_values.specs.TextRules.{is_known}
use Rattle.json_values.proofs.EachStep.{each_from-keeps}
use Rattle.json_values.proofs.FirstRule.{below_3, broken, next, Outcome}
use Rattle.json_values.proofs.StepFaults.{name_err, name_ok}
use Rattle.net_base.specs.Network.{PlainNet}
use Rattle.net_base.specs.Steps.{each_from, unless}
use Rattle.net_base.proofs.StepLemmas.{bind_ok, err_same, ok_not_err, ok_same, or_fault_ok, unless_ok}
use Rattle.net_base.proofs.StepOutcomes.{bind_case, each_from-breaks, unless_err}
use Rattle.location_names.specs.Names.{names_of}
use Rattle.config_base.specs.declared.route.Route.{Route}
use Rattle.table_reader.specs.declared.fault.TablesFault.{TablesFault}
use Rattle.table_reader.specs.declared.fault.TablesFault.TheVariants.{Count, Holder, Unknown}
use Rattle.table_reader.specs.Faults.{number_of}
use Rattle.table_reader.specs.Laws.{rules, BeginFrom, BeginsAt, HasNames}
use Rattle.table_reader.specs.Rules.{at_holders, begins_at, held_by, judged, located}
use Rattle.table_reader.specs.Shape.{each, Said}

module _ (net : PlainNet) where
  abbrev names : List (List ℕ)
  names = names_of net

  -- ---- names

  located-keeps : (place k : ℕ) (name : List ℕ) (l : ℕ) → located names place name ≡ Ok l → is_known names name ≡ true
  unfolding located
  located-keeps place k name l h = name_ok (Unknown place) names name l h

  located-breaks : (place k : ℕ) (name : List ℕ) (e : TablesFault) → located names place name ≡ Err e → (is_known names name ≡ true → ⊥) × (number_of e ≡ 4)
  unfolding located
  located-breaks place k name e h = let q = name_err (Unknown place) e names name h in (q.0, ap number_of (sym q.1))

  held-keeps : (place : ℕ) (entry : Option Said) (held : Option Route) → held_by names place entry ≡ Ok held → HasNames net entry
  unfolding held_by
  held-keeps place None held h = tt
  held-keeps place (Some said) held h =
      let path = bind_ok (each (located names place) said.path) _ held h in
      each_from-keeps (λ (name : List ℕ). is_known names name ≡ true) (λ _. located names place) (located-keeps place) 1 said.path path.0 path.1

  held-breaks : (place : ℕ) (entry : Option Said) (e : TablesFault) → held_by names place entry ≡ Err e → (HasNames net entry → ⊥) × (number_of e ≡ 4)
  unfolding held_by
  held-breaks place None e h = absurd (ok_not_err _ e h)
  held-breaks place (Some said) e h =
      bind_case ((HasNames net (Some said) → ⊥) × (number_of e ≡ 4)) (each (located names place) said.path) _ (Err e) h
      (λ d p same. let q = each_from-breaks (λ (name : List ℕ). is_known names name ≡ true) (λ f. number_of f ≡ 4) (λ _. located names place) (located-breaks place) 1 said.path d p in
      (q.0, ap number_of (err_same e d same) ∙ q.1))
      (λ path _ k. absurd (ok_not_err _ e k))

  -- ---- the first name of a path

  -- the paths of an entry and of what its router holds begin alike
  path-begins : (place r : ℕ) (said : List (List ℕ)) (path : List ℕ) → each (located names place) said ≡ Ok path
      → ((l : ℕ) → slice_get path 0 ≡ Some l → (name : List ℕ) × (slice_get said 0 ≡ Some name) × (position (bytes_eq name) names ≡ Some l))
      × ((name : List ℕ) → slice_get said 0 ≡ Some name → position (bytes_eq name) names ≡ Some r → slice_get path 0 ≡ Some r)
  unfolding located
  path-begins place r [] path h = let none = ok_same [] path h in ((λ l at. absurd (let clash = ap (λ (p : List ℕ). slice_get p 0) none ∙ at in cc)), (λ name at. absurd cc))
  path-begins place r (name ∷ said) path h =
      let first = bind_ok (located names place name) _ path h in
      let more = bind_ok (each_from (λ _. located names place) 2 said) _ path first.2 in
      let at : position (bytes_eq name) names ≡ Some first.0 = or_fault_ok (Unknown place) (position (bytes_eq name) names) first.0 first.1 in
      let here : slice_get path 0 ≡ Some first.0 = ap (λ (p : List ℕ). slice_get p 0) (sym (ok_same (first.0 ∷ more.0) path more.2)) in
      ((λ l there. (name, refl, at ∙ sym here ∙ there)), (λ other one there. here ∙ sym at ∙ ap (λ n. position (bytes_eq n) names) (same name other one) ∙ there))
    where
      same : (a b : List ℕ) → Some a ≡ Some b → a ≡ b
      same a b e = cc

  begins : (place r : ℕ) (entry : Option Said) (held : Option Route) → held_by names place entry ≡ Ok held
      → (begins_at r held ≡ true → BeginsAt net r entry) × (BeginsAt net r entry → begins_at r held ≡ true)
  unfolding held_by
  begins place r None held h = ((λ _. tt), λ _. subst (λ o. begins_at r o ≡ true) (ok_same None held h) refl)
  begins place r (Some said) held h =
      let path = bind_ok (each (located names place) said.path) _ held h in
      let alike = path-begins place r said.path path.0 path.1 in
      let is = ok_same (Some (record { path = path.0; tag = said.tag; pref = said.pref })) held path.2 in
      ((λ t. let at = first_is path.0 r (ap (begins_at r) is ∙ t) in alike.0 r at), λ b. ap (begins_at r) (sym is) ∙ is_first path.0 r (alike.1 b.0 b.1 b.2))
    where
      first_is : (path : List ℕ) (r : ℕ) → begins_at r (Some (record { path = path; tag = said.tag; pref = said.pref })) ≡ true → slice_get path 0 ≡ Some r
      first_is [] r t = absurd cc
      first_is (l ∷ ls) r t = ap Some (eqb-true l r t)

      is_first : (path : List ℕ) (r : ℕ) → slice_get path 0 ≡ Some r → begins_at r (Some (record { path = path; tag = said.tag; pref = said.pref })) ≡ true
      is_first [] r t = absurd cc
      is_first (l ∷ ls) r t = let same : l ≡ r = cc in eq-eqb l r same

  -- ---- each entry begins with its router

  first_kept : (r : ℕ) (entry : Option Said) (said : List (Option Said)) (held : Option Route) (more : List (Option Route)) → (begins_at r held ≡ true → BeginsAt net r entry)
      → (at_holders (r + 1) more ≡ Ok tt → BeginFrom net (r + 1) said) → at_holders r (held ∷ more) ≡ Ok tt → BeginsAt net r entry × BeginFrom net (r + 1) said
  first_kept r entry said held more here later t = by (begins_at r held) refl t
    where
      by : (b : Bool) → begins_at r held ≡ b → at_holders r (held ∷ more) ≡ Ok tt → BeginsAt net r entry × BeginFrom net (r + 1) said
      by true e t = (here e, later (rw e at t))
      by false e t = absurd (let told = rw e at t in cc)

  first_broken : (r : ℕ) (entry : Option Said) (said : List (Option Said)) (held : Option Route) (more : List (Option Route)) → (BeginsAt net r entry → begins_at r held ≡ true)
      → ((e : TablesFault) → at_holders (r + 1) more ≡ Err e → (BeginFrom net (r + 1) said → ⊥) × (number_of e ≡ 5))
      → (f : TablesFault) → at_holders r (held ∷ more) ≡ Err f → (BeginsAt net r entry × BeginFrom net (r + 1) said → ⊥) × (number_of f ≡ 5)
  first_broken r entry said held more here later f t = by (begins_at r held) refl t
    where
      by : (b : Bool) → begins_at r held ≡ b → at_holders r (held ∷ more) ≡ Err f → (BeginsAt net r entry × BeginFrom net (r + 1) said → ⊥) × (number_of f ≡ 5)
      by true e t = let q = later f (rw e at t) in ((λ b. q.0 b.1), q.1)
      by false e t = ((λ b. true≢false (sym (here b.0) ∙ e)), ap number_of (sym (err_same (Holder (r + 1)) f (rw e at t))))

  holders : (k r : ℕ) (said : List (Option Said)) (routes : List (Option Route)) → each_from (held_by names) k said ≡ Ok routes
      → (at_holders r routes ≡ Ok tt → BeginFrom net r said) × ((e : TablesFault) → at_holders r routes ≡ Err e → (BeginFrom net r said → ⊥) × (number_of e ≡ 5))
  holders k r [] routes h = let none = ok_same [] routes h in ((λ _. tt), λ e t. absurd (ok_not_err tt e (ap (at_holders r) none ∙ t)))
  holders k r (entry ∷ said) routes h =
      let first = bind_ok (held_by names k entry) _ routes h in
      let more = bind_ok (each_from (held_by names) (k + 1) said) _ routes first.2 in
      let is = ok_same (first.0 ∷ more.0) routes more.2 in
      let here = begins k r entry first.0 first.1 in
      let later = holders (k + 1) (r + 1) said more.0 more.1 in
      ((λ t. first_kept r entry said first.0 more.0 here.0 later.0 (ap (at_holders r) is ∙ t)), λ e t. first_broken r entry said first.0 more.0 here.1 later.1 e (ap (at_holders r) is ∙ t))

pub judged_outcome : (net : PlainNet) (said : List (Option Said)) (y : Result (List (Option Route)) TablesFault) → judged net said ≡ y → Outcome (rules net said) number_of y
unfolding judged
judged_outcome net said y h =
    let all = rules net said in
    let whole = length said == length net.routers in
    let held = held_by (names_of net) in
    bind_case (Outcome all number_of y) (unless (Count (length said)) whole) _ y h
    (λ e p same. let q = unless_err (Count (length said)) e whole p in
    broken all number_of 3 y e (below_3 all) ((λ k. true≢false (sym (eq-eqb (length said) (length net.routers) k) ∙ q.1)), ap number_of (sym q.0)) same)
    (λ u p g.
    let below_4 = next all 3 (below_3 all) (eqb-true (length said) (length net.routers) (unless_ok (Count (length said)) whole u p)) in
    bind_case (Outcome all number_of y) (each_from held 1 said) _ y g
    (λ e p same. broken all number_of 4 y e below_4 (each_from-breaks (HasNames net) (λ f. number_of f ≡ 4) held (held-breaks net) 1 said e p) same)
    (λ routes rp g.
    let below_5 = next all 4 below_4 (each_from-keeps (HasNames net) held (held-keeps net) 1 said routes rp) in
    bind_case (Outcome all number_of y) (at_holders 0 routes) _ y g
    (λ e p same. broken all number_of 5 y e below_5 ((holders net 1 0 said routes rp).1 e p) same)
    (λ _ p g. rw (← g) (next all 5 below_5 ((holders net 1 0 said routes rp).0 p)))))
