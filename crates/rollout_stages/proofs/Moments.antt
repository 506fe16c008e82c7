-- Every moment of a rollout is right.
use Rattle.std.proofs.Common.{◌≡◌, ℕ, Bool, true, ◌⊎◌, List, ◌∷◌, refl, inl, inr}
use Rattle.std.proofs.lemmas.Bool.{and_parts}
use Rattle.net_base.specs.Network.{PlainNet, is_peer, is_router}
use Rattle.net_base.specs.Prefixes.{PlainPrefix}
use Rattle.config_base.specs.declared.route.Route.{Route}
use Rattle.event_base.specs.World.{World}
use Rattle.event_law.specs.Kinds.{AreKinds}
use Rattle.config_base.specs.Configs.{IsConfig}
use Rattle.rollout_base.specs.Lines.{AreApart, SaysNoMore}
use Rattle.rollout_base.specs.Mixtures.{Change, Loaded, Mixture, Part, after, begins}
use Rattle.rollout_base.specs.Moments.{Holds, IsRightByEither, MayHear}
use Rattle.rollout_base.specs.Stages.{SayAlike}
use Rattle.rollout_stages.specs.Moments.{EveryMomentOfARolloutIsRight}
use Rattle.rollout_law.proofs.Layers.{Held_at, OnTheWay, after-kinds, begins-kinds}
use Rattle.rollout_law.proofs.Loads.{loaded_so}
use Rattle.rollout_stages.proofs.Alike.{IsUntagged, apart_from_silence, says_as_silenced, silenced, untagged_elsewhere}
use Rattle.rollout_stages.proofs.OfCase.{FoundLayer, bare, found_layer}
use Rattle.event_law.proofs.Moments.{each_at}

module _ (net : PlainNet) (says : ℕ → Bool) (p : PlainPrefix) (x y : Part) (apart : AreApart net p x y)
    (peers : (a : ℕ) → says a ≡ true → is_peer net a ≡ true) (one : FoundLayer net p x) (two : FoundLayer net p y) where
  abbrev At : ℕ → Route → Type 0
  At = Held_at net says p x y apart peers one.At two.At one.On two.On one.layer two.layer

  abbrev On : ℕ → ℕ → Route → Type 0
  On = OnTheWay net says p x y apart peers one.At two.At one.On two.On one.layer two.layer

  held_right : (r : ℕ) (h : Route) → At r h → Holds net x.policy p r h.path ⊎ Holds net y.policy p r h.path
  held_right r h (inl k) = inl (one.holds r h k)
  held_right r h (inr k) = inr (two.holds r h k)

  hears_right : (a b : ℕ) (m : Route) → is_router net a ≡ true → is_peer net b ≡ true → one.On a b m ⊎ two.On a b m → MayHear net x.policy p (b ∷ m.path) ⊎ MayHear net y.policy p (b ∷ m.path)
  hears_right a b m router peer (inl k) = inl (one.hears a b m router peer k)
  hears_right a b m router peer (inr k) = inr (two.hears a b m router peer k)

  pub right : (w : World Route) → AreKinds At On w → IsRightByEither net x.policy y.policy p w
  right w k = record {
    held = λ r h e. held_right r h (k.route r h e);
    heard = λ r q m who e. (
        let at = and_parts (is_router net r) (is_peer net q) who in
        hears_right r q m at.0 at.1 ((k.heard r q m e).router at.0));
    waiting = λ r q i m who e. (
        let at = and_parts (is_router net r) (is_peer net q) who in
        hears_right r q m at.0 at.1 ((each_at (On r q) (w.queue r q) i m (k.queue r q) e).router at.0));
  }

module _ (net : PlainNet) (says : ℕ → Bool) (p : PlainPrefix) (old new : Part) (peers : (a : ℕ) → says a ≡ true → is_peer net a ≡ true)
    (one : FoundLayer net p old) (m : Mixture) (es : List Change) where
  -- where the tags are apart
  while_apart : FoundLayer net p new → AreApart net p old new → ((r : ℕ) → SaysNoMore net p old new r (m r)) → Loaded (SaysNoMore net p old new) es
      → IsRightByEither net old.policy new.policy p (after net says p es (begins net says p m)).world
  while_apart two apart no_more loaded =
      right net says p old new apart peers one two (after net says p es (begins net says p m)).world
      (after-kinds net says p old new apart peers one.At two.At one.On two.On one.layer two.layer es (begins net says p m) no_more loaded
      (begins-kinds net says p old new apart peers one.At two.At one.On two.On one.layer two.layer m no_more))

-- Where both say the same: beside the old part there are the own routes of who is an origin by the new policy alone, and they have no tag.
while_alike : (net : PlainNet) (says : ℕ → Bool) (p : PlainPrefix) (old new : Part) → ((a : ℕ) → says a ≡ true → is_peer net a ≡ true) → IsConfig old.config
    → FoundLayer net p old → IsUntagged net p old → SayAlike net p old.config new.config
    → (m : Mixture) → ((r : ℕ) → SaysNoMore net p old new r (m r)) → (es : List Change) → Loaded (SaysNoMore net p old new) es
    → IsRightByEither net old.policy new.policy p (after net says p es (begins net says p m)).world
while_alike net says p old new peers lawful one untagged alike m no_more es loaded =
    while_apart net says p old (silenced new) peers one m es (bare net (silenced new) p refl) (apart_from_silence net p old new lawful)
    (λ r. says_as_silenced net p old new untagged alike r (m r) (no_more r)) (loaded_so _ _ (says_as_silenced net p old new untagged alike) es loaded)

pub every_moment_of_a_rollout_is_right : EveryMomentOfARolloutIsRight
every_moment_of_a_rollout_is_right net old new cs ds rules kept passes lawful kept' passes' p prefix mix says peers m no_more es loaded =
    let one = found_layer net old cs rules kept passes p prefix in
    elim mix [
      | inl apart ↦ while_apart net says p old new peers one m es (found_layer net new ds rules kept' passes' p prefix) apart no_more loaded
      | inr alike ↦ while_alike net says p old new peers lawful one (untagged_elsewhere net old cs rules kept passes p prefix) alike m no_more es loaded
    ]
