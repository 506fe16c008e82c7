-- Over a link that is listed as idle no packet goes, and over every other live link some packet does.
use Rattle.std.proofs.Common.{◌≡◌, ℕ, Bool, true, List, [], ◌∷◌, refl, sym, ◌∙◌, inl, inr, subst}
use Rattle.std.specs.Prelude.{◌⊎◌, not}
use Rattle.std.proofs.lemmas.Bool.{cases_Bool, false_from_ne_true, not-true, not_from_false, true≢false}
use Rattle.list_law.specs.Members.{IsIn}
use Rattle.list_law.proofs.Members.{IsIn-filter, IsIn-filter_parts}
use Rattle.net_base.specs.Network.{PlainNet, IsNet, joins}
use Rattle.net_base.specs.Prefixes.{PlainPrefix}
use Rattle.net_base.proofs.Links.{joins_ends, joins_straight, joins_turned}
use Rattle.policy_base.specs.Policies.{PlainPolicy}
use Rattle.config_base.specs.Configs.{PlainConfig}
use Rattle.outcome_base.specs.Outcomes.{Failures, Outcome, IsStable}
use Rattle.multipath_law.specs.declared.multipath.Multipath.{Multipath}
use Rattle.multipath_law.specs.Carried.{Carries, CarriesNothing, IsMultipath, IsOffered, IsUsed, live_links}
use Rattle.multipath_law.specs.Laws.{IdleLinksCarryNothing}
use Rattle.multipath_law.specs.Multipath.{IsMember}
use Rattle.multipath_law.proofs.Lengths.{members_carry, others_dont}

-- what holds of two places holds of the ends of their link, in one order
at_ends : (R : ℕ → ℕ → Type 0) (u v a b : ℕ) → R u v → joins u v (a, b) ≡ true → R a b ⊎ R b a
at_ends R u v a b r on = elim (joins_ends u v (a, b) on) [
  | inl same ↦ inl (subst (λ k. R a k) (sym same.1) (subst (λ k. R k v) (sym same.0) r))
  | inr turned ↦ inr (subst (λ k. R k a) (sym turned.1) (subst (λ k. R u k) (sym turned.0) r))
]

module _ (net : PlainNet) (policy : PlainPolicy) (config : PlainConfig) (rules : IsNet net) (p : PlainPrefix) (f : Failures) (outcome : Outcome) (m : Multipath)
    (stable : IsStable net policy config f p outcome) (are : IsMultipath net policy config f p outcome m) (a b : ℕ) (lives : IsIn (live_links net f) (a, b)) where
  abbrev unused : ℕ × ℕ → Bool
  unused link = not (are.is_used link)

  not_used : IsIn m.idle (a, b) → IsUsed net policy config f p outcome a b → ⊥
  not_used idle used =
      let at = IsIn-filter_parts unused (live_links net f) (a, b) (subst (λ (ls : List (ℕ × ℕ)). IsIn ls (a, b)) are.idle idle) in
      true≢false (sym ((are.each (a, b) lives).1 used) ∙ not-true (are.is_used (a, b)) at.1)

  nothing : IsIn m.idle (a, b) → CarriesNothing net policy config f p outcome a b
  nothing idle = record {
    trails = λ front back u v t. false_from_ne_true (joins u v (a, b)) (λ on.
        not_used idle (inl (at_ends (IsMember net policy config f p outcome) u v a b (others_dont net policy config p f outcome front back u v t) on)));
    offers = λ r peer path at. false_from_ne_true (joins r peer (a, b)) (λ on.
        not_used idle (inr (at_ends (IsOffered net policy config f p outcome) r peer a b (path, at) on)));
  }

  used_carries : IsUsed net policy config f p outcome a b → Carries net policy config f p outcome a b
  used_carries (inl (inl member)) =
      let w = members_carry net policy config rules p f outcome stable a b member in
      inl (a, b, w.0, joins_straight a b (a, b) refl refl, w.1)
  used_carries (inl (inr member)) =
      let w = members_carry net policy config rules p f outcome stable b a member in
      inl (b, a, w.0, joins_turned b a (a, b) refl refl, w.1)
  used_carries (inr (inl offered)) = inr (a, b, joins_straight a b (a, b) refl refl, offered)
  used_carries (inr (inr offered)) = inr (b, a, joins_turned b a (a, b) refl refl, offered)

  something : (IsIn m.idle (a, b) → ⊥) → Carries net policy config f p outcome a b
  something other = elim (cases_Bool (are.is_used (a, b))) [
    | inl used ↦ used_carries ((are.each (a, b) lives).0 used)
    | inr off ↦
        let listed = IsIn-filter unused (live_links net f) (a, b) lives (not_from_false (are.is_used (a, b)) off) in
        absurd (other (subst (λ (ls : List (ℕ × ℕ)). IsIn ls (a, b)) (sym are.idle) listed))
  ]

pub idle_links_carry_nothing : IdleLinksCarryNothing
idle_links_carry_nothing net policy config rules p f outcome m stable are a b lives =
    (nothing net policy config rules p f outcome m stable are a b lives, something net policy config rules p f outcome m stable are a b lives)
