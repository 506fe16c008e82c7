-- Tags that stand in one of two configurations alone are apart.
use Rattle.std.proofs.Common.{◌≡◌, ℕ, Bool, true, false, not, ◌⊎◌, List, length, Some, None, refl, sym, ap, ◌∙◌, subst, inl, inr, IsTrue}
use Rattle.std.specs.Prelude.{◌&&◌, ◌||◌, ◌==◌, MatchBool, option_and_then, if◌then◌else◌}
use Rattle.std.specs.List.{find, list_any}
use Rattle.std.proofs.lemmas.Bool.{and_parts, both_ways, or_cases, true≢false}
use Rattle.list_law.specs.Members.{IsIn}
use Rattle.list_law.proofs.Each.{AllByRecursion_at}
use Rattle.list_law.proofs.Options.{cases_Option, option_and_then_parts, unless_parts, when_parts}
use Rattle.list_law.proofs.Tests.{find_parts, list_any_parts}
use Rattle.net_base.specs.declared.numbers.Tag.{Tag}
use Rattle.net_base.specs.Network.{PlainNet, is_named, is_peer, is_router}
use Rattle.net_base.specs.Numbers.{is_tag, no_tag}
use Rattle.net_base.specs.Prefixes.{PlainPrefix, same_prefix}
use Rattle.net_base.proofs.RoutersAndPeers.{router_no_peer}
use Rattle.config_base.specs.declared.config.RouterConfig.{RouterConfig}
use Rattle.config_base.specs.declared.config.Session.{Session}
use Rattle.config_base.specs.declared.config.Import.{Import}
use Rattle.config_base.specs.declared.config.Export.{Export}
use Rattle.config_base.specs.declared.config.Origination.{Origination}
use Rattle.config_base.specs.Configs.{PlainConfig, IsConfig, IsExport, IsImport, IsRouter, IsSession}
use Rattle.config_base.specs.Lines.{block_at, class_of, export_by, export_of, import_of, is_looped, line_by, own_tag, router_at, same_tag}
use Rattle.config_base.proofs.LineLemmas.{own_tag_is}
use Rattle.config_base.proofs.SameTags.{same_tag-is}
use Rattle.rollout_base.specs.Lines.{GivesTag, ReadsTag, takes}
use Rattle.rollout_base.specs.Mixtures.{Part}
use Rattle.rollout_law.specs.Standing.{AreDisjoint, DisjointTagsAreApart, StandsIn}

abbrev same_kind : Bool → Bool → Bool
same_kind true b = b
same_kind false b = not b

-- a block that is for a peer isn't that of a router
kind_of : (own other named : Bool) → other ≡ false → (named && same_kind own other) ≡ true → own ≡ false
kind_of true other named off h = absurd (both_ways other off (and_parts named other h).1)
kind_of false other named off h = refl

module _ (net : PlainNet) (config : PlainConfig) where
  -- the block of a router is in the configuration
  router_in : (r : ℕ) (c : RouterConfig) → router_at net config r ≡ Some c → IsIn config.routers c
  router_in r c e =
      let a = when_parts (is_router net r) (find (λ (d : RouterConfig). is_named net d.name r) config.routers) c e in
      let f = find_parts (λ (d : RouterConfig). is_named net d.name r) config.routers c a.1 in
      (f.0, f.1)

  pub record BlockIn (r z : ℕ) (b : Session) : Type 0 where
    pub router : RouterConfig
    pub at : IsIn config.routers router
    pub block : IsIn router.sessions b
    pub kind : is_peer net z ≡ false → b.peer ≡ false

  block_in : (r z : ℕ) (b : Session) → block_at net config r z ≡ Some b → BlockIn r z b
  block_in r z b e =
      let c = option_and_then_parts _ (router_at net config r) b e in
      let f = find_parts _ c.0.sessions b c.2 in
      record { router = c.0; at = router_in r c.0 c.1; block = (f.0, f.1); kind = λ off. kind_of b.peer (is_peer net z) (is_named net b.name z) off f.2 }

  -- ---- what a line takes

  record LineOf (u class : ℕ) (t : Tag) (b : Session) (q : Tag × ℕ) : Type 0 where
    rule : Import
    at : IsIn b.imports rule
    asks : (rule.class == class && (is_peer net u || same_tag rule.tag t)) ≡ true
    sets : rule.set ≡ q.0

  line_of : (u class : ℕ) (t : Tag) (b : Session) (q : Tag × ℕ) → line_by net class u t b ≡ Some q → LineOf u class t b q
  line_of u class t b q e = elim (cases_Option (find (λ (i : Import). i.class == class && (is_peer net u || same_tag i.tag t)) b.imports)) [
    | inl none ↦ (let clash : None ≡ Some q = sym (no_line none) ∙ e in absurd cc)
    | inr some ↦ (
        let f = find_parts (λ (i : Import). i.class == class && (is_peer net u || same_tag i.tag t)) b.imports some.0 some.1 in
        let same : Some (some.0.set, some.0.pref) ≡ Some q = sym (one_line some.0 some.1) ∙ e in
        let is : (some.0.set, some.0.pref) ≡ q = cc in
        record { rule = some.0; at = (f.0, f.1); asks = f.2; sets = ap (λ (x : Tag × ℕ). x.0) is })
  ]
    where
      no_line : find (λ (i : Import). i.class == class && (is_peer net u || same_tag i.tag t)) b.imports ≡ None → line_by net class u t b ≡ None
      no_line none = rw none refl

      one_line : (i : Import) → find (λ (i : Import). i.class == class && (is_peer net u || same_tag i.tag t)) b.imports ≡ Some i → line_by net class u t b ≡ Some (i.set, i.pref)
      one_line i some = rw some refl

  record TakenBy (r u : ℕ) (t : Tag) (q : Tag × ℕ) : Type 0 where
    class : ℕ
    block : Session
    found : BlockIn r u block
    line : LineOf u class t block q

  taken_by : (p : PlainPrefix) (r u : ℕ) (path : List ℕ) (t : Tag) (q : Tag × ℕ) → takes net config p r u path t ≡ Some q → TakenBy r u t q
  taken_by p r u path t q e =
      let c = option_and_then_parts (λ class. import_of net config class r u path t) (class_of config p) q e in
      let a = unless_parts (is_looped net r u path) (option_and_then (line_by net c.0 u t) (block_at net config r u)) q c.2 in
      let b = option_and_then_parts (line_by net c.0 u t) (block_at net config r u) q a.1 in
      record { class = c.0; block = b.0; found = block_in r u b.0 b.1; line = line_of u c.0 t b.0 q b.2 }

  -- ---- what is given stands there, or is no tag

  own_stands : (p : PlainPrefix) (r : ℕ) → (own_tag net config p r ≡ no_tag) ⊎ StandsIn config (own_tag net config p r)
  own_stands p r = elim (cases_Option (router_at net config r)) [
    | inl none ↦ inl (no_router none)
    | inr c ↦ elim (cases_Option (class_of config p)) [
      | inl none ↦ inl (no_class c.0 c.1 none)
      | inr class ↦ elim (cases_Option (find (λ (o : Origination). o.class == class.0 && same_prefix o.prefix p) c.0.own)) [
        | inl none ↦ inl (no_own c.0 class.0 c.1 class.1 none)
        | inr o ↦ (
            let f = find_parts (λ (o : Origination). o.class == class.0 && same_prefix o.prefix p) c.0.own o.0 o.1 in
            inr (c.0, router_in r c.0 c.1, inl (o.0, (f.0, f.1), sym (own_tag_is net config p r c.0 class.0 o.0 c.1 class.1 o.1))))
      ]
    ]
  ]
    where
      no_router : router_at net config r ≡ None → own_tag net config p r ≡ no_tag
      no_router none = rw none refl

      no_class : (c : RouterConfig) → router_at net config r ≡ Some c → class_of config p ≡ None → own_tag net config p r ≡ no_tag
      no_class c at none = rw (at, none) refl

      no_own : (c : RouterConfig) (class : ℕ) → router_at net config r ≡ Some c → class_of config p ≡ Some class
          → find (λ (o : Origination). o.class == class && same_prefix o.prefix p) c.own ≡ None → own_tag net config p r ≡ no_tag
      no_own c class at number none = rw (at, number, none) refl

  set_stands : (p : PlainPrefix) (r u : ℕ) (path : List ℕ) (tag t : Tag) (pref : ℕ) → takes net config p r u path tag ≡ Some (t, pref) → StandsIn config t
  set_stands p r u path tag t pref e =
      let x = taken_by p r u path tag (t, pref) e in
      (x.found.router, x.found.at, inr (x.block, x.found.block, inl (x.line.rule, x.line.at, inr x.line.sets)))

module _ (net : PlainNet) (p : PlainPrefix) (x : Part) where
  given_stands : (r : ℕ) (t : Tag) → GivesTag net p x r t → (t ≡ no_tag) ⊎ StandsIn x.config t
  given_stands r t (inl own) = subst (λ (u : Tag). (u ≡ no_tag) ⊎ StandsIn x.config u) own.1 (own_stands net x.config p r)
  given_stands r t (inr g) = inr (set_stands net x.config p r g.0 g.1 g.2 t g.3 g.4)

  -- ---- what is asked for stands there, and is a tag

  module _ (lawful : IsConfig x.config) where
    session_of : (c : RouterConfig) (b : Session) → IsIn x.config.routers c → IsIn c.sessions b → IsSession (length x.config.classes) b
    session_of c b at block =
        let router = AllByRecursion_at (IsRouter (length x.config.classes)) x.config.routers at.0 c lawful.routers at.1 in
        AllByRecursion_at (IsSession (length x.config.classes)) c.sessions block.0 b router.sessions block.1

    pub read_stands : (r : ℕ) (t : Tag) → is_router net r ≡ true → ReadsTag net p x r t → StandsIn x.config t × (is_tag t ≡ true)
    read_stands r t router (inl s) =
        let c = option_and_then_parts (λ class. export_of net x.config class r s.0 t) (class_of x.config p) s.1 s.2 in
        let b = option_and_then_parts (export_by net c.0 s.0 t) (block_at net x.config r s.0) s.1 c.2 in
        let w = when_parts (list_any (λ (e : Export). e.class == c.0 && same_tag e.tag t) b.0.exports) (Some (if is_peer net s.0 then no_tag else t)) s.1 b.2 in
        let e = list_any_parts (λ (e : Export). e.class == c.0 && same_tag e.tag t) b.0.exports w.0 in
        let found = block_in net x.config r s.0 b.0 b.1 in
        let same : e.1.tag ≡ t = same_tag-is e.1.tag t (and_parts (e.1.class == c.0) (same_tag e.1.tag t) e.3).1 in
        let keeps = AllByRecursion_at (IsExport (length x.config.classes)) b.0.exports e.0 e.1 (session_of found.router b.0 found.at found.block).exports e.2 in
        ((found.router, found.at, inr (b.0, found.block, inr (e.1, (e.0, e.2), same))), ap is_tag (sym same) ∙ keeps.1)
    read_stands r t router (inr s) =
        let y = taken_by net x.config p s.0 r s.1 t s.2 s.4 in
        let i = y.line.rule in
        let off = router_no_peer net r router in
        let same : i.tag ≡ t = same_tag-is i.tag t (elim (or_cases (is_peer net r) (same_tag i.tag t) (and_parts (i.class == y.class) (is_peer net r || same_tag i.tag t) y.line.asks).1)
        [ inl peer ↦ absurd (both_ways (is_peer net r) off peer) | inr t ↦ t ]) in
        let keeps = AllByRecursion_at (IsImport (length x.config.classes) y.block) y.block.imports y.line.at.0 i (session_of y.found.router y.block y.found.at y.found.block).imports y.line.at.1 in
        let named : is_tag i.tag ≡ true = tagged y.block.peer i.tag (y.found.kind off) keeps.1 in
        ((y.found.router, y.found.at, inr (y.block, y.found.block, inl (i, y.line.at, inl same))), ap is_tag (sym same) ∙ named)
      where
        tagged : (peer : Bool) (tag : Tag) → peer ≡ false → MatchBool peer (tag ≡ no_tag) (IsTrue (is_tag tag)) → is_tag tag ≡ true
        tagged true tag off h = absurd (true≢false off)
        tagged false tag off h = h

one_way : (net : PlainNet) (p : PlainPrefix) (x y : Part) → IsConfig y.config → AreDisjoint x.config y.config → (r : ℕ) (t : Tag) → is_router net r ≡ true → GivesTag net p x r t → ReadsTag net p y r t → ⊥
one_way net p x y lawful disjoint r t router gives reads =
    let s = read_stands net p y lawful r t router reads in
    elim (given_stands net p x r t gives) [
      | inr stands ↦ disjoint t s.1 stands s.0
      | inl none ↦ true≢false (sym s.1 ∙ ap is_tag none)
    ]

pub disjoint_tags_are_apart : DisjointTagsAreApart
disjoint_tags_are_apart net p x y lawful lawful' disjoint = record {
  one = one_way net p x y lawful' disjoint;
  other = one_way net p y x lawful (λ t tag here there. disjoint t tag there here);
}
