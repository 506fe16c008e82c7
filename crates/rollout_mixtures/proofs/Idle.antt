-- Who originates a prefix by one policy alone, where both configurations do the same with it: its own route has no tag, so nobody hears of it,
-- and it takes nothing.
use Rattle.std.proofs.Common.{◌≡◌, ℕ, Bool, true, false, cond, ◌⊎◌, List, [], ◌∷◌, Option, Some, None, refl, sym, ap, ◌∙◌, inl, inr, arith}
use Rattle.std.specs.Prelude.{◌&&◌, ◌==◌}
use Rattle.std.specs.Option.{option_and_then}
use Rattle.std.specs.List.{find}
use Rattle.std.proofs.lemmas.Bool.{and_parts, both_ways, cases_Bool, lt-ltb, or_left, true≢false}
use Rattle.std.proofs.lemmas.List.{length-append}
use Rattle.std.proofs.lemmas.Option.{slice_get_within}
use Rattle.list_law.proofs.Options.{cases_Option, none_from, option_and_then_parts, unless_parts}
use Rattle.list_law.proofs.Tests.{find_parts}
use Rattle.net_base.specs.declared.numbers.Tag.{Tag}
use Rattle.net_base.specs.Network.{PlainNet, IsNet, is_location, is_named, is_peer, is_router, site_of, sites}
use Rattle.net_base.specs.Numbers.{no_tag}
use Rattle.net_base.specs.Prefixes.{PlainPrefix}
use Rattle.net_base.proofs.RoutersAndPeers.{router_or_peer}
use Rattle.policy_base.specs.Governing.{is_origin}
use Rattle.config_base.specs.declared.config.Import.{Import}
use Rattle.config_base.specs.declared.config.Session.{Session}
use Rattle.config_base.specs.Configs.{PlainConfig, IsConfig}
use Rattle.config_base.specs.Lines.{block_at, class_of, import_of, is_looped, line_by, own_tag, router_at, same_tag}
use Rattle.evidence_law.proofs.Loops.{import_from_peer}
use Rattle.evidence_law.proofs.Spelled.{import_some, imported_by, imports_tag}
use Rattle.rollout_base.specs.Lines.{sends, takes}
use Rattle.rollout_base.specs.Mixtures.{Part}
use Rattle.rollout_base.specs.Stages.{SayAlike}
use Rattle.rollout_law.proofs.Standing.{read_stands}
use Rattle.rollout_stages.proofs.Alike.{IsUntagged}
use Rattle.rollout_stages.proofs.Saying.{sender, taker}
use Rattle.rollout_mixtures.proofs.Alone.{IsAlone}

-- A router has no tag for its own route, and no line by which it takes one.
pub record IsIdle (net : PlainNet) (p : PlainPrefix) (x : Part) (r : ℕ) : Type 0 where
  pub own : own_tag net x.config p r ≡ no_tag
  pub taken : (u : ℕ) (path : List ℕ) (t : Tag) → takes net x.config p r u path t ≡ None

-- Lines ask for tags: none is about a route without one.
pub record IsUnread (net : PlainNet) (p : PlainPrefix) (x : Part) : Type 0 where
  pub sent : (r z : ℕ) → sends net x.config p r z no_tag ≡ None
  pub taken : (r u : ℕ) (path : List ℕ) → is_router net u ≡ true → takes net x.config p r u path no_tag ≡ None

pub unread : (net : PlainNet) (p : PlainPrefix) (x : Part) → IsConfig x.config → IsUnread net p x
unread net p x lawful = record {
  sent = λ r z. none_from (sends net x.config p r z no_tag) (λ t e.
      true≢false (sym (read_stands net p x lawful r no_tag (sender net x.config p r z no_tag t e) (inl (z, t, e))).1));
  taken = λ r u path from. none_from (takes net x.config p r u path no_tag) (λ q e.
      true≢false (sym (read_stands net p x lawful u no_tag from (inr (r, path, q, taker net x.config p r u path no_tag q e, e))).1));
}

-- ---- who sends a router something is a location

-- a path without places has no loop, from a peer or from a router
pub either_way : {A : Type 0} (b : Bool) (o : Option A) → cond (cond b false false) None o ≡ o
either_way true o = refl
either_way false o = refl

named_known : (net : PlainNet) (name : List ℕ) (u : ℕ) → is_named net name u ≡ true → is_location net u ≡ true
named_known net name u named = elim (cases_Option (site_of net u)) [
  | inl none ↦ absurd (true≢false (sym named ∙ unnamed none))
  | inr s ↦ lt-ltb _ _ (omega (arith, slice_get_within (sites net) u s.0 s.1, length-append net.routers net.peers))
]
  where
    unnamed : site_of net u ≡ None → is_named net name u ≡ false
    unnamed none = rw none refl

module _ (net : PlainNet) (config : PlainConfig) where
  block_known : (r u : ℕ) (b : Session) → block_at net config r u ≡ Some b → is_location net u ≡ true
  block_known r u b e =
      let c = option_and_then_parts _ (router_at net config r) b e in
      let f = find_parts _ c.0.sessions b c.2 in
      named_known net b.name u (and_parts (is_named net b.name u) _ f.2).0

  line_known : (class r u : ℕ) (path : List ℕ) (t : Tag) (q : Tag × ℕ) → import_of net config class r u path t ≡ Some q → is_location net u ≡ true
  line_known class r u path t q e =
      let a = unless_parts (is_looped net r u path) (option_and_then (line_by net class u t) (block_at net config r u)) q e in
      let b = option_and_then_parts (line_by net class u t) (block_at net config r u) q a.1 in
      block_known r u b.0 b.1

  -- what is taken of a peer at all is taken where it announces itself
  peer_line : IsNet net → (class r u : ℕ) (path : List ℕ) (t : Tag) (q : Tag × ℕ) → is_peer net u ≡ true → import_of net config class r u path t ≡ Some q
      → import_of net config class r u (u ∷ []) no_tag ≡ Some q
  peer_line rules class r u path t q peer e =
      let line = option_and_then (line_by net class u t) (block_at net config r u) in
      let i = imported_by net config class r u t q (either_way (is_peer net u) line ∙ (unless_parts (is_looped net r u path) line q e).1) in
      let found = ap (λ (asks : Import → Bool). find asks i.0.imports) (λ j rule. tagless rule j) ∙ i.3 in
      import_from_peer net config class r u no_tag rules peer ∙ import_some net config class r u no_tag i.0 i.1 i.2 found ∙ ap Some i.4
    where
      -- lines for a peer ask for no tag
      tagless : (rule : Import) → imports_tag net u class no_tag rule ≡ imports_tag net u class t rule
      tagless rule =
          ap (λ (b : Bool). rule.class == class && b) (or_left (is_peer net u) (same_tag rule.tag no_tag) peer ∙ sym (or_left (is_peer net u) (same_tag rule.tag t) peer))

-- ---- an origin takes nothing

module _ (net : PlainNet) (p : PlainPrefix) (x : Part) (rules : IsNet net) (alone : IsAlone net p x) where
  peer_takes : (r u : ℕ) (path : List ℕ) (t : Tag) (q : Tag × ℕ) → is_peer net u ≡ true → takes net x.config p r u path t ≡ Some q → takes net x.config p r u (u ∷ []) no_tag ≡ Some q
  peer_takes r u path t q peer e =
      let c = option_and_then_parts (λ class. import_of net x.config class r u path t) (class_of x.config p) q e in
      ap (option_and_then (λ class. import_of net x.config class r u (u ∷ []) no_tag)) c.1 ∙ peer_line net x.config rules c.0 r u path t q peer c.2

  known : (r u : ℕ) (path : List ℕ) (t : Tag) (q : Tag × ℕ) → takes net x.config p r u path t ≡ Some q → is_location net u ≡ true
  known r u path t q e =
      let c = option_and_then_parts (λ class. import_of net x.config class r u path t) (class_of x.config p) q e in
      line_known net x.config c.0 r u path t q c.2

  origin_takes : (r u : ℕ) (path : List ℕ) (t : Tag) → is_origin net x.policy p r ≡ true → takes net x.config p r u path t ≡ None
  origin_takes r u path t origin = none_from (takes net x.config p r u path t) (λ q e. elim (cases_Bool (is_peer net u)) [
    | inl peer ↦ elim (cases_Bool (is_router net u)) [
      | inl router ↦ both_ways (is_origin net x.policy p r) (alone.router r u path t q router e) origin
      | inr off ↦ both_ways (is_origin net x.policy p r) (alone.peer r u q off peer (peer_takes r u path t q peer e)).0 origin
    ]
    | inr off ↦ both_ways (is_origin net x.policy p r) (alone.router r u path t q (router_or_peer net u (known r u path t q e) off) e) origin
  ])

-- ---- who originates by one alone is idle

module _ (net : PlainNet) (p : PlainPrefix) (x y : Part) (alike : SayAlike net p x.config y.config) where
  -- by the first
  pub first_is_idle : IsNet net → IsAlone net p x → IsUntagged net p y → (r : ℕ) → is_origin net x.policy p r ≡ true → is_origin net y.policy p r ≡ false → IsIdle net p x r
  first_is_idle rules alone untagged r origin other = record {
    own = alike.own r ∙ untagged r other;
    taken = λ u path t. origin_takes net p x rules alone r u path t origin;
  }

  -- by the second
  pub second_is_idle : IsNet net → IsAlone net p y → IsUntagged net p x → (r : ℕ) → is_origin net y.policy p r ≡ true → is_origin net x.policy p r ≡ false → IsIdle net p x r
  second_is_idle rules alone untagged r origin other = record {
    own = untagged r other;
    taken = λ u path t. alike.taken r u path t ∙ origin_takes net p y rules alone r u path t origin;
  }

  -- a router originates by both or by neither, or is idle
  pub both_or_idle : IsNet net → IsAlone net p x → IsAlone net p y → IsUntagged net p x → IsUntagged net p y → (r : ℕ)
      → (is_origin net y.policy p r ≡ is_origin net x.policy p r) ⊎ IsIdle net p x r
  both_or_idle rules alone alone' untagged untagged' r = elim (cases_Bool (is_origin net x.policy p r)) [
    | inl here ↦ elim (cases_Bool (is_origin net y.policy p r)) [
      | inl there ↦ inl (there ∙ sym here)
      | inr other ↦ inr (first_is_idle rules alone untagged' r here other)
    ]
    | inr other ↦ elim (cases_Bool (is_origin net y.policy p r)) [
      | inl there ↦ inr (second_is_idle rules alone' untagged r there other)
      | inr neither ↦ inl (neither ∙ sym other)
    ]
  ]
