-- Paths that are held have no loop, and no more routers than there are.
use Rattle.std.proofs.Common.{◌≡◌, ℕ, ◌≤◌, ◌<◌, true, false, ◌||◌, eqb, List, [], ◌∷◌, length, map, Option, Some, None, refl, sym, ap, ◌∙◌, subst, inl, inr, arith}
use Rattle.std.specs.Prelude.{suc, ◌==◌}
use Rattle.std.specs.List.{AllByRecursion, IsDistinct, list_any}
use Rattle.std.proofs.lemmas.Bool.{both_ways, cases_Bool, cond-true, cond-false, eqb-true, false_from_ne_true, ltb-true, or_cases, or_parts, eq-eqb}
use Rattle.std.proofs.lemmas.Map.Keys.{IsDistinct-cons}
use Rattle.std.proofs.lemmas.Map.Steps.{length-le_from_distinct_below}
use Rattle.net_base.specs.Network.{PlainNet, asn_of, is_peer, is_router}
use Rattle.net_base.specs.Numbers.{no_tag}
use Rattle.net_base.specs.Prefixes.{PlainPrefix}
use Rattle.net_base.proofs.RoutersAndPeers.{router_no_peer}
use Rattle.policy_base.specs.Policies.{PlainPolicy}
use Rattle.policy_base.specs.Governing.{is_origin}
use Rattle.list_law.proofs.Options.{unless_parts}
use Rattle.config_base.specs.declared.route.Route.{Route}
use Rattle.config_base.specs.Configs.{PlainConfig}
use Rattle.config_base.specs.Lines.{is_looped, own_route}
use Rattle.event_law.specs.Kinds.{Held, IsKind}
use Rattle.event_base.specs.Speaking.{announced_by, chosen_by, exported_by, speakers_of}
use Rattle.rest_law.proofs.Choosers.{chosen_own, chosen_parts, sent_parts, taken_parts}

-- no location stands twice, and all but the last are routers
abbrev pub IsTrail : PlainNet → List ℕ → Type 0
IsTrail net [] = Unit {0}
IsTrail net (v ∷ []) = Unit {0}
IsTrail net (v ∷ u ∷ path) = (is_router net v ≡ true) × (list_any (eqb v) (u ∷ path) ≡ false) × IsTrail net (u ∷ path)

-- ---- such a path is short

abbrev front : List ℕ → List ℕ
front [] = []
front (v ∷ []) = []
front (v ∷ u ∷ path) = v ∷ front (u ∷ path)

front_length : (path : List ℕ) → length path ≤ suc (length (front path))
front_length [] = omega arith
front_length (v ∷ []) = omega arith
front_length (v ∷ u ∷ path) = (let h = front_length (u ∷ path) in omega (arith, h))

front_apart : (v : ℕ) (path : List ℕ) → list_any (eqb v) path ≡ false → AllByRecursion (λ u. eqb v u ≡ false) (front path)
front_apart v [] h = tt
front_apart v (u ∷ []) h = tt
front_apart v (u ∷ w ∷ path) h = (let q = or_parts (eqb v u) (list_any (eqb v) (w ∷ path)) h in (q.0, front_apart v (w ∷ path) q.1))

pub none_distinct : IsDistinct eqb []
unfolding IsDistinct
none_distinct = tt

module _ (net : PlainNet) where
  front_distinct : (path : List ℕ) → IsTrail net path → IsDistinct eqb (front path)
  front_distinct [] t = none_distinct
  front_distinct (v ∷ []) t = none_distinct
  front_distinct (v ∷ u ∷ path) t = IsDistinct-cons eqb v (front (u ∷ path)) (front_apart v (u ∷ path) t.1) (front_distinct (u ∷ path) t.2)

  front_routers : (path : List ℕ) → IsTrail net path → (q : ℕ) → list_any (eqb q) (front path) ≡ true → q < length net.routers
  front_routers [] t q h = absurd (both_ways false refl h)
  front_routers (v ∷ []) t q h = absurd (both_ways false refl h)
  front_routers (v ∷ u ∷ path) t q h = elim (or_cases (eqb q v) (list_any (eqb q) (front (u ∷ path))) h) [
    | inl here ↦ subst (λ z. z < length net.routers) (sym (eqb-true q v here)) (ltb-true v (length net.routers) t.0)
    | inr there ↦ front_routers (u ∷ path) t.2 q there
  ]

  pub trail_short : (path : List ℕ) → IsTrail net path → length path ≤ suc (length net.routers)
  trail_short path t =
      let all = front_length path in
      let few = length-le_from_distinct_below (front path) (length net.routers) (front_distinct path t) (front_routers path t) in
      omega (arith, all, few)

  -- ---- routes are such

  -- a router whose number isn't on a path isn't on it
  off_path : (r : ℕ) (path : List ℕ) → list_any (λ n. n == asn_of net r) (map (asn_of net) path) ≡ false → list_any (eqb r) path ≡ false
  off_path r [] h = refl
  off_path r (v ∷ path) h =
      let q = or_parts (asn_of net v == asn_of net r) (list_any (λ n. n == asn_of net r) (map (asn_of net) path)) h in
      let here : eqb r v ≡ false = false_from_ne_true (eqb r v) (λ t. both_ways (asn_of net v == asn_of net r) q.0 (eq-eqb (asn_of net v) (asn_of net r) (ap (asn_of net) (sym (eqb-true r v t))))) in
      rw here (off_path r path q.1)

  unlooped : (r u : ℕ) (path : List ℕ) → is_router net u ≡ true → is_looped net r u path ≡ false → list_any (eqb r) path ≡ false
  unlooped r u path router h = off_path r path (sym (cond-false (is_peer net u) _ _ (router_no_peer net u router)) ∙ h)

  abbrev pub IsHolding : ℕ → Route → Type 0
  IsHolding r h = (rest : List ℕ) × (h.path ≡ r ∷ rest) × IsTrail net (r ∷ rest)

  abbrev pub IsSaying : ℕ → ℕ → Route → Type 0
  IsSaying a b m = (is_router net a ≡ true → IsHolding a m) × (is_router net a ≡ false → m.path ≡ a ∷ [])

  module _ (policy : PlainPolicy) (config : PlainConfig) (p : PlainPrefix) where
    exports : (a b : ℕ) (o : Option Route) → is_router net a ≡ true → Held (IsHolding a) o → Held (IsSaying a b) (exported_by net config p a b o)
    exports a b o router held m e =
        let h = sent_parts net policy config p a b o m e in
        let k = held h.0 h.1 in
        ((λ t. (k.0, h.2 ∙ k.1, k.2)), λ f. absurd (both_ways (is_router net a) f router))

    announces : (a b : ℕ) → is_router net a ≡ false → Held (IsSaying a b) (announced_by net policy p a)
    announces a b off m e = elim (cases_Bool (is_origin net policy p a)) [
      | inl t ↦ (
          let is : Some (record { path = a ∷ []; tag = no_tag; pref = 0 }) ≡ Some m = sym (cond-true (is_origin net policy p a) (Some (record { path = a ∷ []; tag = no_tag; pref = 0 })) None t) ∙ e in
          let same : record { path = a ∷ []; tag = no_tag; pref = 0 } ≡ m = cc in
          ((λ router. absurd (both_ways (is_router net a) off router)), λ f. ap (λ (z : Route). z.path) (sym same)))
      | inr f ↦ (let none : None ≡ Some m = sym (cond-false (is_origin net policy p a) (Some (record { path = a ∷ []; tag = no_tag; pref = 0 })) None f) ∙ e in absurd (cc))
    ]

    chooses : (r : ℕ) (offer : ℕ → Option Route) → is_router net r ≡ true → ((u : ℕ) → Held (IsSaying u r) (offer u)) → Held (IsHolding r) (chosen_by net policy config p r offer)
    chooses r offer router said h e = elim (cases_Bool (is_origin net policy p r)) [
      | inl t ↦ (
          let is : Some (own_route net config p r) ≡ Some h = sym (chosen_own net policy config p r offer t) ∙ e in
          let same : own_route net config p r ≡ h = cc in
          ([], ap (λ (z : Route). z.path) (sym same), tt))
      | inr f ↦ (
          let g = chosen_parts net policy config p r offer h f e in
          let m = taken_parts net policy config p r g.0 (offer g.0) h g.1 in
          let says = said g.0 m.1 m.2 in
          elim (cases_Bool (is_router net g.0)) [
            | inl on ↦ (
                let k = says.0 on in
                let free : is_looped net r g.0 m.1.path ≡ false = (unless_parts (is_looped net r g.0 m.1.path) _ m.3.0 m.3.1).0 in
                let apart : list_any (eqb r) (g.0 ∷ k.0) ≡ false = ap (list_any (eqb r)) (sym k.1) ∙ unlooped r g.0 m.1.path on free in
                (g.0 ∷ k.0, m.4 ∙ ap (λ (z : List ℕ). r ∷ z) k.1, (router, apart, k.2)))
            | inr off ↦ (
                let apart : eqb r g.0 ≡ false = false_from_ne_true (eqb r g.0) (λ t. both_ways (is_router net g.0) off (ap (is_router net) (sym (eqb-true r g.0 t)) ∙ router)) in
                (g.0 ∷ [], m.4 ∙ ap (λ (z : List ℕ). r ∷ z) (says.1 off), (router, ap (λ z. z || false) apart, tt)))
          ])
    ]

    pub trails : IsKind (speakers_of net policy config p) IsHolding IsSaying
    trails = record { exports = exports; announces = announces; chooses = chooses }
