-- Tags alone make a layer.
use Rattle.std.proofs.Common.{◌≡◌, ℕ, true, ◌&&◌, ◌⊎◌, [], ◌∷◌, refl, sym, subst, inl, inr}
use Rattle.std.proofs.lemmas.Bool.{and_parts}
use Rattle.net_base.specs.Network.{PlainNet, is_router}
use Rattle.net_base.specs.Numbers.{no_tag}
use Rattle.net_base.specs.Prefixes.{PlainPrefix}
use Rattle.net_base.proofs.RoutersAndPeers.{router_no_peer}
use Rattle.config_base.specs.declared.route.Route.{Route}
use Rattle.event_law.proofs.Waiting.{said}
use Rattle.rollout_base.specs.Lines.{GivesTag}
use Rattle.rollout_base.specs.Mixtures.{Part, after, begins}
use Rattle.rollout_law.specs.Laws.{TagsAreOfEither}
use Rattle.rollout_law.proofs.Layers.{Held_at, IsLayer, OnTheWay, after-kinds, begins-kinds}
use Rattle.rollout_law.proofs.Speaking.{sent_to_router}

module _ (net : PlainNet) (p : PlainPrefix) (x : Part) where
  abbrev pub Gives : ℕ → Route → Type 0
  Gives r h = GivesTag net p x r h.tag

  abbrev pub Sends : ℕ → ℕ → Route → Type 0
  Sends a b m = is_router net b ≡ true → GivesTag net p x a m.tag

  pub tag_layer : IsLayer net p x Gives Sends
  tag_layer = record {
    sent = λ a b h t router at e to. subst (GivesTag net p x a) (sym (sent_to_router net x.config p a b h.tag t (router_no_peer net b to) e)) at;
    taken = λ r u m t n pref to from on e. inr (u, m.path, m.tag, n, e);
    heard = λ r u t n pref to peer off e. inr (u, u ∷ [], no_tag, n, e);
    own = λ r origin. inl (origin, refl);
    held_tag = λ r h at. at;
    sent_tag = λ a b m on to. on to;
  }

pub tags_are_of_either : TagsAreOfEither
tags_are_of_either net says p x y cs m apart peers no_more loaded =
    let one = tag_layer net p x in
    let two = tag_layer net p y in
    let w = (after net says p cs (begins net says p m)).world in
    let On : ℕ → ℕ → Route → Type 0 = OnTheWay net says p x y apart peers (Gives net p x) (Gives net p y) (Sends net p x) (Sends net p y) one two in
    let At : ℕ → Route → Type 0 = Held_at net says p x y apart peers (Gives net p x) (Gives net p y) (Sends net p x) (Sends net p y) one two in
    said At At On
    (λ a b g. (is_router net a && is_router net b) ≡ true → GivesTag net p x a g.tag ⊎ GivesTag net p y a g.tag)
    (λ r h at. at) (λ a b g on who. (let at = and_parts (is_router net a) (is_router net b) who in given a b g at.1 (on.router at.0))) w
    (after-kinds net says p x y apart peers (Gives net p x) (Gives net p y) (Sends net p x) (Sends net p y) one two cs (begins net says p m) no_more loaded
    (begins-kinds net says p x y apart peers (Gives net p x) (Gives net p y) (Sends net p x) (Sends net p y) one two m no_more))
  where
    given : (a b : ℕ) (g : Route) → is_router net b ≡ true → Sends net p x a b g ⊎ Sends net p y a b g → GivesTag net p x a g.tag ⊎ GivesTag net p y a g.tag
    given a b g to (inl k) = inl (k to)
    given a b g to (inr k) = inr (k to)
