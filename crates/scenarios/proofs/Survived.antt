-- The tables say what the failures do.
use Rattle.std.proofs.Common.{◌≡◌, ℕ, true, sym, ap, ◌∙◌, inl, inr}
use Rattle.std.specs.Prelude.{◌&&◌, not}
use Rattle.std.proofs.lemmas.Bool.{cases_Bool}
use Rattle.net_base.specs.Network.{PlainNet, is_peer, linked}
use Rattle.net_base.specs.Sets.{holds}
use Rattle.net_base.proofs.Links.{linked_flips}
use Rattle.outcome_base.specs.Outcomes.{Failures, is_dead, is_dead_link, is_live, is_silent}
use Rattle.scenarios.specs.Links.{has_link}
use Rattle.scenarios.specs.declared.survivors.Survivors.{Survivors}
use Rattle.scenarios.specs.Surviving.{AreSurvivors, carries, carries_by, live_by}

module _ (net : PlainNet) (f : Failures) (s : Survivors) (are : AreSurvivors net f s) where
  pub live_is : (a b : ℕ) → live_by net s a b ≡ is_live net f a b
  live_is a b = elim (cases_Bool (linked net a b)) [
    | inr off ↦
        ap (λ o. o && not (has_link net s.cut a b) && not (holds s.dead a) && not (holds s.dead b)) off
        ∙ sym (ap (λ o. o && not (is_dead_link f a b) && not (is_dead f a) && not (is_dead f b)) off)
    | inl on ↦
        ap (λ o. linked net a b && not o && not (holds s.dead a) && not (holds s.dead b)) (are.cut a b on)
        ∙ ap (λ o. linked net a b && not (is_dead_link f a b) && not o && not (holds s.dead b)) (are.dead a)
        ∙ ap (λ o. linked net a b && not (is_dead_link f a b) && not (is_dead f a) && not o) (are.dead b)
  ]

  -- where a session of a peer is linked the marks tell whether it is silent
  silent_is : (a b : ℕ) → linked net a b ≡ true → (is_peer net a && has_link net s.silent b a) ≡ (is_peer net a && is_silent f b a)
  silent_is a b on = elim (cases_Bool (is_peer net a)) [
    | inr off ↦ ap (λ o. o && has_link net s.silent b a) off ∙ sym (ap (λ o. o && is_silent f b a) off)
    | inl peer ↦ ap (λ o. is_peer net a && o) (are.silent b a (linked_flips net b a ∙ on) peer)
  ]

  pub carries_is : (a b : ℕ) → carries_by net s a b ≡ carries net f a b
  carries_is a b = elim (cases_Bool (linked net a b)) [
    | inr off ↦
        ap (λ o. o && not (has_link net s.cut a b) && not (holds s.dead a) && not (holds s.dead b) && not (is_peer net a && has_link net s.silent b a)) off
        ∙ sym (ap (λ o. o && not (is_dead_link f a b) && not (is_dead f a) && not (is_dead f b) && not (is_peer net a && is_silent f b a)) off)
    | inl on ↦ ap (λ o. o && not (is_peer net a && has_link net s.silent b a)) (live_is a b) ∙ ap (λ o. is_live net f a b && not o) (silent_is a b on)
  ]
