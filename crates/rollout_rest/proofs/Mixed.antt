-- The routers of a mixture choose the first of what they take, and hold trails.
use Rattle.std.proofs.Common.{◌≡◌, ℕ, ◌<◌, suc, Bool, false, List, [], ◌∷◌, length, Some, sym, ap, arith}
use Rattle.std.proofs.lemmas.Bool.{both_ways}
use Rattle.list_law.proofs.Options.{when_parts}
use Rattle.net_base.specs.Network.{PlainNet, IsNet, is_router}
use Rattle.net_base.specs.Numbers.{no_tag}
use Rattle.net_base.specs.Prefixes.{PlainPrefix}
use Rattle.config_base.specs.declared.route.Route.{Route}
use Rattle.event_base.specs.Speaking.{exported_by, speakers_of, taken_by}
use Rattle.event_law.specs.Kinds.{AreKinds, Held, IsKind}
use Rattle.event_law.proofs.First.{NoLater}
use Rattle.rest_law.specs.Orders.{AreChoosers, Takes}
use Rattle.rest_law.proofs.Choosers.{are_choosers}
use Rattle.rest_law.proofs.Trails.{IsHolding, IsSaying, trails}
use Rattle.rollout_base.specs.Mixtures.{Change, Change as change, Loaded, Mixture, Running, after, announced_if, mixed}
use Rattle.rollout_law.proofs.Loads.{kinds_after}
use Rattle.rollout_law.proofs.Speaking.{sent_parts, taken_parts}

-- what each router makes of what it hears, by its own part
abbrev pub taken_in : PlainNet → PlainPrefix → Mixture → Takes Route
taken_in net p m r u o = taken_by net (m r).config p r u o

module _ (net : PlainNet) (says : ℕ → Bool) (p : PlainPrefix) (m : Mixture) where
  longer : (r u : ℕ) (g h : Route) → taken_in net p m r u (exported_by net (m u).config p u r (Some g)) ≡ Some h → length g.path < length h.path
  longer r u g h e =
      let k = taken_parts net (m r).config p r u (exported_by net (m u).config p u r (Some g)) h e in
      let s = sent_parts net (m u).config p u r (Some g) k.0 k.2 in
      let same : g ≡ s.0 = (let here = s.2 in cc) in
      let long : suc (length k.0.path) ≡ length h.path = ap (λ (z : Route). length z.path) k.4 in
      let alike : length s.0.path ≡ length k.0.path = ap (λ (z : Route). length z.path) s.4 in
      let first : length g.path ≡ length s.0.path = ap (λ (z : Route). length z.path) same in
      omega (arith, long, alike, first)

  each : IsNet net → (r : ℕ) → AreChoosers (speakers_of net (m r).policy (m r).config p) (taken_by net (m r).config p) (NoLater net) (λ (h : Route). length h.path)
  each rules r = are_choosers net (m r).policy (m r).config p rules

  pub mixed_choosers : IsNet net → AreChoosers (mixed net says p m) (taken_in net p m) (NoLater net) (λ (h : Route). length h.path)
  mixed_choosers rules = record {
    alike = (each rules 0).alike;
    unsent = λ a b. (each rules a).unsent a b;
    untaken = λ r u. (each rules r).untaken r u;
    own = λ r. (each rules r).own r;
    given = λ r. (each rules r).given r;
    first = λ r. (each rules r).first r;
    longer = longer;
  }

  announces : (a b : ℕ) → is_router net a ≡ false → Held (IsSaying net a b) (announced_if says a)
  announces a b off h e =
      let is = when_parts (says a) (Some (record { path = a ∷ []; tag = no_tag; pref = 0 })) h e in
      let same : record { path = a ∷ []; tag = no_tag; pref = 0 } ≡ h = (let here = is.1 in cc) in
      ((λ router. absurd (both_ways (is_router net a) off router)), λ f. ap (λ (z : Route). z.path) (sym same))

  pub mixed_trails : IsKind (mixed net says p m) (IsHolding net) (IsSaying net)
  mixed_trails = record {
    exports = λ a. (trails net (m a).policy (m a).config p).exports a;
    announces = announces;
    chooses = λ r. (trails net (m r).policy (m r).config p).chooses r;
  }

-- what every mixture keeps stays through events and loads
all_loaded : (cs : List Change) → Loaded (λ r part. Unit {0}) cs
all_loaded [] = tt
all_loaded (change.event e ∷ cs) = all_loaded cs
all_loaded (change.load l ∷ cs) = (tt, all_loaded cs)

pub after_kinds : (net : PlainNet) (says : ℕ → Bool) (p : PlainPrefix) (hold : ℕ → Route → Type 0) (on : ℕ → ℕ → Route → Type 0) → ((m : Mixture) → IsKind (mixed net says p m) hold on)
    → (cs : List Change) (s : Running) → AreKinds hold on s.world → AreKinds hold on (after net says p cs s).world
after_kinds net says p hold on kind cs s k = kinds_after net says p (λ r part. Unit {0}) hold on (λ m all. kind m) cs s (λ r. tt) (all_loaded cs) k
