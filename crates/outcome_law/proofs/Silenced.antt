-- Which sessions are silent where an announcement that is of no use counts as silence.
use Rattle.std.proofs.Common.{◌≡◌, ℕ, Some, Bool, true, ◌&&◌, ◌||◌, eqb, List, [], ◌∷◌, length, refl, sym, ap, ◌∙◌, inl, inr, arith}
use Rattle.std.specs.Prelude.{filter, nat_le, slice_get}
use Rattle.std.specs.List.{list_any}
use Rattle.std.proofs.lemmas.Bool.{and_from, and_parts, cases_Bool, cond-true, cond-false, eq-eqb, eqb-true, leb-true}
use Rattle.std.proofs.lemmas.List.Folds.{list_any-append}
use Rattle.net_base.specs.Network.{PlainNet, IsNet, IsLink, is_location, is_peer, joins, linked}
use Rattle.net_base.proofs.Links.{joins_ends}
use Rattle.outcome_base.specs.Outcomes.{Failures, is_silent}
use Rattle.list_law.proofs.Each.{AllByRecursion_at}
use Rattle.list_law.proofs.Members.{list_any-from_IsIn}
use Rattle.list_law.proofs.Tests.{list_any_parts}
use Rattle.list_law.proofs.Truth.{same_tests}
use Rattle.outcome_base.specs.Announcements.{Announcements, is_unusable, silenced}
use Rattle.outcome_law.specs.Laws.{SilencedSessions}

-- of what passes one test, some passes another
any_filtered : {A : Type 0} (p q : A → Bool) (xs : List A) → list_any p (filter q xs) ≡ list_any (λ x. q x && p x) xs
any_filtered p q [] = refl
any_filtered p q (x ∷ xs) = elim (cases_Bool (q x)) [
  | inl t ↦ ap (list_any p) (cond-true (q x) (x ∷ filter q xs) (filter q xs) t) ∙ ap (λ b. p x || b) (any_filtered p q xs) ∙ ap (λ b. (b && p x) || list_any (λ x. q x && p x) xs) (sym t)
  | inr f ↦ ap (list_any p) (cond-false (q x) (x ∷ filter q xs) (filter q xs) f) ∙ any_filtered p q xs ∙ ap (λ b. (b && p x) || list_any (λ x. q x && p x) xs) (sym f)
]

module _ (net : PlainNet) (rules : IsNet net) (says : Announcements) (peer r : ℕ) (at_peer : is_peer net peer ≡ true) (on : linked net peer r ≡ true) where
  abbrev mute : ℕ × ℕ → Bool
  mute s = is_unusable net (says s.1 s.0)

  abbrev here : ℕ × ℕ → Bool
  here s = eqb s.0 r && eqb s.1 peer

  mute_here : (s : ℕ × ℕ) → here s ≡ true → mute s ≡ is_unusable net (says peer r)
  mute_here s h =
      let ends = and_parts (eqb s.0 r) (eqb s.1 peer) h in
      ap (λ (z : ℕ). is_unusable net (says s.1 z)) (eqb-true s.0 r ends.0) ∙ ap (λ (z : ℕ). is_unusable net (says z r)) (eqb-true s.1 peer ends.1)

  -- a link of a peer has the router first
  is_here : (i : ℕ) (s : ℕ × ℕ) → slice_get net.links i ≡ Some s → joins peer r s ≡ true → here s ≡ true
  is_here i s at h = elim (joins_ends peer r s h) [
    | inl e ↦
        let link = AllByRecursion_at (IsLink net) net.links i s rules.links at in
        absurd (omega (arith, link.2, e.0, leb-true (length net.routers) peer (and_parts (nat_le (length net.routers) peer) (is_location net peer) at_peer).0))
    | inr e ↦ and_from (eqb s.0 r) (eqb s.1 peer) (eq-eqb s.0 r e.0) (eq-eqb s.1 peer e.1)
  ]

  mutes : list_any here (filter mute net.links) ≡ is_unusable net (says peer r)
  mutes = any_filtered here mute net.links ∙ same_tests _ (is_unusable net (says peer r))
      (λ h. (
      let x = list_any_parts (λ (s : ℕ × ℕ). mute s && here s) net.links h in
      let parts = and_parts (mute x.1) (here x.1) x.3 in
      sym (mute_here x.1 parts.1) ∙ parts.0))
      (λ h. (
      let x = list_any_parts (joins peer r) net.links on in
      let at = is_here x.0 x.1 x.2 x.3 in
      list_any-from_IsIn (λ (s : ℕ × ℕ). mute s && here s) net.links x.1 (x.0, x.2) (and_from (mute x.1) (here x.1) (mute_here x.1 at ∙ h) at)))

  pub silenced_is : (f : Failures) → is_silent (silenced net says f) r peer ≡ (is_silent f r peer || is_unusable net (says peer r))
  silenced_is f = list_any-append here f.silent (filter mute net.links) ∙ ap (λ b. is_silent f r peer || b) mutes

pub silenced_sessions : SilencedSessions
silenced_sessions net f says rules r peer at_peer on = silenced_is net rules says peer r at_peer on f
