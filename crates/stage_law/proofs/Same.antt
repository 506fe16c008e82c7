-- Where every block has the same lines of two classes, both say the same of a prefix that has these classes.
use Rattle.std.proofs.Common.{◌≡◌, ℕ, Bool, true, false, List, [], ◌∷◌, filter, Option, Some, None, not, refl, sym, ap, ◌∙◌}
use Rattle.std.specs.Prelude.{◌&&◌, ◌||◌, ◌==◌, is_some, option_map}
use Rattle.std.specs.List.{find}
use Rattle.std.proofs.lemmas.Bool.{true≢false}
use Rattle.net_base.specs.declared.numbers.Tag.{Tag}
use Rattle.net_base.specs.Network.{PlainNet, is_named, is_peer, is_router}
use Rattle.net_base.specs.Numbers.{no_tag}
use Rattle.net_base.specs.Prefixes.{PlainPattern, PlainPrefix, same_prefix}
use Rattle.policy_base.specs.Governing.{some_contains}
use Rattle.config_base.specs.declared.config.RouterConfig.{RouterConfig}
use Rattle.config_base.specs.declared.config.Session.{Session}
use Rattle.config_base.specs.declared.config.Import.{Import}
use Rattle.config_base.specs.declared.config.Export.{Export}
use Rattle.config_base.specs.declared.config.Origination.{Origination}
use Rattle.config_base.specs.Configs.{IsConfig, PlainConfig}
use Rattle.config_base.specs.Lines.{block_at, own_tag, router_at, same_tag}
use Rattle.rollout_base.specs.Lines.{sends, takes}
use Rattle.rollout_base.specs.Stages.{SayAlike}
use Rattle.stage_blocks.proofs.Spreading.{find-filter, find-map}
use Rattle.stage_maker.specs.Alike.{AreAlike, SameNeighbours, SameRouter}
use Rattle.stage_maker.proofs.OwnLines.{same_prefix-is}
use Rattle.stage_maker.proofs.Says.{IsNumber, exported, given, imported, own_by, owned, sends_by, sent, tag_given, takes_by, told, unless_looped}
use Rattle.stage_law.specs.Mixing.{SameAtRouter, SameInBlock, SameInBlocks, SaySame, exports_of, imports_of, own_of}

-- ---- what is found, by what the lines of a class say

module _ (net : PlainNet) (p : PlainPrefix) where
  abbrev tag_of : Option (PlainPrefix × Tag) → Tag
  tag_of None = no_tag
  tag_of (Some q) = q.1

  -- who has the prefix is among those about these patterns, of which one contains it
  among : (patterns : List PlainPattern) → some_contains patterns p ≡ true → (os : List Origination)
      → find (λ (o : Origination). same_prefix o.prefix p) (filter (λ (o : Origination). some_contains patterns o.prefix) os) ≡ find (λ (o : Origination). same_prefix o.prefix p) os
  among patterns contains [] = refl
  among patterns contains (o ∷ os) = by (some_contains patterns o.prefix) (same_prefix o.prefix p) refl refl (among patterns contains os)
    where
      by : (a b : Bool) → some_contains patterns o.prefix ≡ a → same_prefix o.prefix p ≡ b
          → find (λ (o : Origination). same_prefix o.prefix p) (filter (λ (o : Origination). some_contains patterns o.prefix) os) ≡ find (λ (o : Origination). same_prefix o.prefix p) os
          → find (λ (o : Origination). same_prefix o.prefix p) (filter (λ (o : Origination). some_contains patterns o.prefix) (o ∷ os))
          ≡ find (λ (o : Origination). same_prefix o.prefix p) (o ∷ os)
      by true true e f later = rw (e, f) refl
      by true false e f later = rw (e, f) later
      by false true e f later = absurd (true≢false (sym contains ∙ ap (some_contains patterns) (sym (same_prefix-is o.prefix p f)) ∙ e))
      by false false e f later = rw (e, f) later

  own_found : (patterns : List PlainPattern) → some_contains patterns p ≡ true → (n : ℕ) (c : RouterConfig)
      → owned net p n (Some c) ≡ tag_of (find (λ (q : PlainPrefix × Tag). same_prefix q.0 p) (own_of patterns n c))
  own_found patterns contains n c =
      by (find (λ (o : Origination). o.class == n && same_prefix o.prefix p) c.own)
      ∙ ap tag_of (ap (option_map (λ (o : Origination). (o.prefix, o.tag)))
      (sym (find-filter (λ (o : Origination). o.class == n) (λ (o : Origination). same_prefix o.prefix p) c.own)
      ∙ sym (among patterns contains (filter (λ (o : Origination). o.class == n) c.own)))
      ∙ sym (find-map (λ (q : PlainPrefix × Tag). same_prefix q.0 p) (λ (o : Origination). (o.prefix, o.tag))
      (filter (λ (o : Origination). some_contains patterns o.prefix) (filter (λ (o : Origination). o.class == n) c.own))))
    where
      by : (o : Option Origination) → tag_given net p o ≡ tag_of (option_map (λ (o : Origination). (o.prefix, o.tag)) o)
      by None = refl
      by (Some o) = refl

  some_mapped : {A B : Type 0} (f : A → B) (o : Option A) → is_some o ≡ is_some (option_map f o)
  some_mapped f None = refl
  some_mapped f (Some x) = refl

  exports_found : (z n : ℕ) (tag : Tag) (b : Session) → exported net p z n tag (Some b) ≡ sent (told net p z tag) (is_some (find (λ t. same_tag t tag) (exports_of n b)))
  exports_found z n tag b =
      ap (sent (told net p z tag))
      (some_mapped (λ (e : Export). e.tag) (find (λ (e : Export). e.class == n && same_tag e.tag tag) b.exports)
      ∙ ap is_some (ap (option_map (λ (e : Export). e.tag)) (sym (find-filter (λ (e : Export). e.class == n) (λ (e : Export). same_tag e.tag tag) b.exports))
      ∙ sym (find-map (λ t. same_tag t tag) (λ (e : Export). e.tag) (filter (λ (e : Export). e.class == n) b.exports))))

  imports_found : (u n : ℕ) (tag : Tag) (b : Session)
      → imported net p u n tag (Some b) ≡ option_map (λ (q : Tag × (Tag × ℕ)). q.1) (find (λ (q : Tag × (Tag × ℕ)). is_peer net u || same_tag q.0 tag) (imports_of n b))
  imports_found u n tag b =
      by (find (λ (r : Import). r.class == n && (is_peer net u || same_tag r.tag tag)) b.imports)
      ∙ ap (option_map (λ (q : Tag × (Tag × ℕ)). q.1))
      (ap (option_map (λ (r : Import). (r.tag, (r.set, r.pref)))) (sym (find-filter (λ (r : Import). r.class == n) (λ (r : Import). is_peer net u || same_tag r.tag tag) b.imports))
      ∙ sym (find-map (λ (q : Tag × (Tag × ℕ)). is_peer net u || same_tag q.0 tag) (λ (r : Import). (r.tag, (r.set, r.pref))) (filter (λ (r : Import). r.class == n) b.imports)))
    where
      by : (o : Option Import) → given o ≡ option_map (λ (q : Tag × (Tag × ℕ)). q.1) (option_map (λ (r : Import). (r.tag, (r.set, r.pref))) o)
      by None = refl
      by (Some r) = refl

-- ---- blocks of both

module _ (m n : ℕ) where
  data FoundBoth (one two : Option Session) : Type 0 where
    neither : one ≡ None → two ≡ None → FoundBoth one two
    both : (a b : Session) → SameInBlock m n a b → one ≡ Some a → two ≡ Some b → FoundBoth one two

  sessions_found : (test : List ℕ → Bool → Bool) (xs ys : List Session) → SameNeighbours xs ys → SameInBlocks m n xs ys
      → FoundBoth (find (λ (s : Session). test s.name s.peer) xs) (find (λ (s : Session). test s.name s.peer) ys)
  sessions_found test [] [] alike same = neither refl refl
  sessions_found test [] (y ∷ ys) alike same = absurd alike
  sessions_found test (x ∷ xs) [] alike same = absurd alike
  sessions_found test (x ∷ xs) (y ∷ ys) alike same = by (test x.name x.peer) refl (sessions_found test xs ys alike.1 same.1)
    where
      other_is : test y.name y.peer ≡ test x.name x.peer
      other_is = ap (λ k. test k y.peer) (sym alike.0.name) ∙ ap (test x.name) (sym alike.0.peer)

      by : (b : Bool) → test x.name x.peer ≡ b → FoundBoth (find (λ (s : Session). test s.name s.peer) xs) (find (λ (s : Session). test s.name s.peer) ys)
          → FoundBoth (find (λ (s : Session). test s.name s.peer) (x ∷ xs)) (find (λ (s : Session). test s.name s.peer) (y ∷ ys))
      by true e later = both x y same.0 (rw e refl) (rw (other_is ∙ e) refl)
      by false e (neither v w) = neither (rw e v) (rw (other_is ∙ e) w)
      by false e (both a b is v w) = both a b is (rw e v) (rw (other_is ∙ e) w)

module _ (patterns : List PlainPattern) (m n : ℕ) where
  data FoundRouters (one two : Option RouterConfig) : Type 0 where
    no_router : one ≡ None → two ≡ None → FoundRouters one two
    routers : (a b : RouterConfig) → SameRouter a b → SameAtRouter patterns m n a b → one ≡ Some a → two ≡ Some b → FoundRouters one two

  routers_found : (test : List ℕ → Bool) (xs ys : List RouterConfig) → AreAlike xs ys → SaySame patterns m n xs ys
      → FoundRouters (find (λ (c : RouterConfig). test c.name) xs) (find (λ (c : RouterConfig). test c.name) ys)
  routers_found test [] [] alike same = no_router refl refl
  routers_found test [] (y ∷ ys) alike same = absurd alike
  routers_found test (x ∷ xs) [] alike same = absurd alike
  routers_found test (x ∷ xs) (y ∷ ys) alike same = by (test x.name) refl (routers_found test xs ys alike.1 same.1)
    where
      other_is : test y.name ≡ test x.name
      other_is = ap test (sym alike.0.name)

      by : (b : Bool) → test x.name ≡ b → FoundRouters (find (λ (c : RouterConfig). test c.name) xs) (find (λ (c : RouterConfig). test c.name) ys)
          → FoundRouters (find (λ (c : RouterConfig). test c.name) (x ∷ xs)) (find (λ (c : RouterConfig). test c.name) (y ∷ ys))
      by true e later = routers x y alike.0 same.0 (rw e refl) (rw (other_is ∙ e) refl)
      by false e (no_router v w) = no_router (rw e v) (rw (other_is ∙ e) w)
      by false e (routers a b kind is v w) = routers a b kind is (rw e v) (rw (other_is ∙ e) w)

  module _ (net : PlainNet) (old new : PlainConfig) (alike : AreAlike old.routers new.routers) (same : SaySame patterns m n old.routers new.routers) where
    router_found : (r : ℕ) → FoundRouters (router_at net old r) (router_at net new r)
    router_found r = by (is_router net r) refl
      where
        by : (b : Bool) → is_router net r ≡ b → FoundRouters (router_at net old r) (router_at net new r)
        by true e = rw e (routers_found (λ name. is_named net name r) old.routers new.routers alike same)
        by false e = no_router (rw e refl) (rw e refl)

    abbrev same_kind : Bool → Bool → Bool
    same_kind true b = b
    same_kind false b = not b

    session_found : (r z : ℕ) → FoundBoth m n (block_at net old r z) (block_at net new r z)
    session_found r z = by (router_found r)
      where
        by : FoundRouters (router_at net old r) (router_at net new r) → FoundBoth m n (block_at net old r z) (block_at net new r z)
        by (no_router v w) = neither (rw v refl) (rw w refl)
        by (routers a b kind is v w) = rw (v, w) (sessions_found m n (λ name peer. is_named net name z && same_kind peer (is_peer net z)) a.sessions b.sessions kind.sessions is.sessions)

    module _ (p : PlainPrefix) (contains : some_contains patterns p ≡ true) (lawful : IsConfig old) (lawful' : IsConfig new) (one : IsNumber old p m)
        (two : IsNumber new p n) where
      pub say_alike : SayAlike net p old new
      say_alike = record {
        own = λ r. own_same r (router_found r);
        sent = λ r z tag. sent_same r z tag (session_found r z);
        taken = λ r u path tag. taken_same r u path tag (session_found r u);
      }
        where
          own_same : (r : ℕ) → FoundRouters (router_at net old r) (router_at net new r) → own_tag net old p r ≡ own_tag net new p r
          own_same r (no_router v w) = own_by net p old lawful r m one None v ∙ sym (own_by net p new lawful' r n two None w)
          own_same r (routers a b kind is v w) =
              own_by net p old lawful r m one (Some a) v ∙ own_found net p patterns contains m a ∙ ap (λ qs. tag_of net p (find (λ (q : PlainPrefix × Tag). same_prefix q.0 p) qs)) is.own
              ∙ sym (own_by net p new lawful' r n two (Some b) w ∙ own_found net p patterns contains n b)

          sent_same : (r z : ℕ) (tag : Tag) → FoundBoth m n (block_at net old r z) (block_at net new r z) → sends net old p r z tag ≡ sends net new p r z tag
          sent_same r z tag (neither v w) = sends_by net p old lawful r z m tag one None v ∙ sym (sends_by net p new lawful' r z n tag two None w)
          sent_same r z tag (both a b is v w) =
              sends_by net p old lawful r z m tag one (Some a) v ∙ exports_found net p z m tag a ∙ ap (λ ts. sent (told net p z tag) (is_some (find (λ t. same_tag t tag) ts))) is.exports
              ∙ sym (sends_by net p new lawful' r z n tag two (Some b) w ∙ exports_found net p z n tag b)

          taken_same : (r u : ℕ) (path : List ℕ) (tag : Tag) → FoundBoth m n (block_at net old r u) (block_at net new r u) → takes net old p r u path tag ≡ takes net new p r u path tag
          taken_same r u path tag (neither v w) = takes_by net p old lawful r u m path tag one None v ∙ sym (takes_by net p new lawful' r u n path tag two None w)
          taken_same r u path tag (both a b is v w) =
              takes_by net p old lawful r u m path tag one (Some a) v
              ∙ ap (unless_looped net p r u path) (imports_found net p u m tag a
              ∙ ap (λ qs. option_map (λ (q : Tag × (Tag × ℕ)). q.1) (find (λ (q : Tag × (Tag × ℕ)). is_peer net u || same_tag q.0 tag) qs)) is.imports
              ∙ sym (imports_found net p u n tag b))
              ∙ sym (takes_by net p new lawful' r u n path tag two (Some b) w)
