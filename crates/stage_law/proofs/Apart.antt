-- Where no tag stands in lines of two classes, their tags are apart for a prefix that has these classes.
use Rattle.std.proofs.Common.{◌≡◌, ℕ, Bool, true, false, ◌⊎◌, List, length, Option, Some, None, refl, sym, ap, ◌∙◌, inl, inr, IsTrue}
use Rattle.std.specs.Prelude.{◌&&◌, ◌||◌, ◌==◌, MatchBool}
use Rattle.std.specs.List.{find}
use Rattle.std.proofs.lemmas.Bool.{and_parts, both_ways, eqb-true, or_cases, true≢false}
use Rattle.list_law.specs.Members.{IsIn}
use Rattle.list_law.proofs.Each.{AllByRecursion_at}
use Rattle.list_law.proofs.Options.{is_some_parts, option_and_then_parts, unless_parts, when_parts}
use Rattle.list_law.proofs.Tests.{find_parts}
use Rattle.net_base.specs.declared.numbers.Tag.{Tag}
use Rattle.net_base.specs.Network.{PlainNet, is_named, is_peer, is_router}
use Rattle.net_base.specs.Numbers.{is_tag, no_tag}
use Rattle.net_base.specs.Prefixes.{PlainPrefix, same_prefix}
use Rattle.net_base.proofs.RoutersAndPeers.{router_no_peer}
use Rattle.config_base.specs.declared.config.RouterConfig.{RouterConfig}
use Rattle.config_base.specs.declared.config.Session.{Session}
use Rattle.config_base.specs.declared.config.Import.{Import}
use Rattle.config_base.specs.declared.config.Export.{Export}
use Rattle.config_base.specs.declared.config.Origination.{Origination}
use Rattle.config_base.specs.Configs.{PlainConfig, IsConfig, IsExport, IsImport}
use Rattle.config_base.specs.Lines.{block_at, is_looped, own_tag, router_at, same_tag}
use Rattle.config_base.proofs.SameTags.{same_tag-is}
use Rattle.rollout_base.specs.Lines.{AreApart, GivesTag, ReadsTag, sends, takes}
use Rattle.rollout_base.specs.Mixtures.{Part}
use Rattle.stage_maker.proofs.Says.{IsNumber, block_in, block_kind, given, imported, own_by, sends_by, sent, takes_by, told}
use Rattle.stage_law.specs.Mixing.{HaveNoTagInCommon, StandsIn}

module _ (net : PlainNet) (config : PlainConfig) (lawful : IsConfig config) (p : PlainPrefix) (n : ℕ) (number : IsNumber config p n) where
  -- ---- blocks that are found are in the configuration

  router_in : (r : ℕ) (c : RouterConfig) → router_at net config r ≡ Some c → IsIn config.routers c
  router_in r c e =
      let a = when_parts (is_router net r) (find (λ (d : RouterConfig). is_named net d.name r) config.routers) c e in
      let f = find_parts (λ (d : RouterConfig). is_named net d.name r) config.routers c a.1 in
      (f.0, f.1)

  pub session_in : (r z : ℕ) (b : Session) → block_at net config r z ≡ Some b → (c : RouterConfig) × IsIn config.routers c × IsIn c.sessions b
  session_in r z b e =
      let c = option_and_then_parts _ (router_at net config r) b e in
      let f = find_parts _ c.0.sessions b c.2 in
      (c.0, router_in r c.0 c.1, (f.0, f.1))

  -- ---- what is given

  own_stands : (r : ℕ) (t : Tag) → own_tag net config p r ≡ t → (t ≡ no_tag) ⊎ StandsIn n config t
  own_stands r t is = by (router_at net config r) refl
    where
      by : (o : Option RouterConfig) → router_at net config r ≡ o → (t ≡ no_tag) ⊎ StandsIn n config t
      by None at = inl (sym is ∙ own_by net p config lawful r n number None at)
      by (Some c) at = of_line (find (λ (o : Origination). o.class == n && same_prefix o.prefix p) c.own) refl
        where
          of_line : (x : Option Origination) → find (λ (o : Origination). o.class == n && same_prefix o.prefix p) c.own ≡ x → (t ≡ no_tag) ⊎ StandsIn n config t
          of_line None e = inl (sym is ∙ own_by net p config lawful r n number (Some c) at ∙ rw e refl)
          of_line (Some o) e =
              let f = find_parts (λ (o : Origination). o.class == n && same_prefix o.prefix p) c.own o e in
              let class = eqb-true o.class n (and_parts (o.class == n) (same_prefix o.prefix p) f.2).0 in
              inr (c, router_in r c at, inl (o, (f.0, f.1), class, sym (sym is ∙ own_by net p config lawful r n number (Some c) at ∙ rw e refl)))

  -- an import line that takes a route
  pub record Taking (r u : ℕ) (tag : Tag) (q : Tag × ℕ) : Type 0 where
    pub block : Session
    pub found : block_at net config r u ≡ Some block
    pub rule : Import
    pub at : IsIn block.imports rule
    pub class : rule.class ≡ n
    pub asks : (is_peer net u || same_tag rule.tag tag) ≡ true
    pub sets : rule.set ≡ q.0
    pub prefers : rule.pref ≡ q.1

  pub taking : (r u : ℕ) (path : List ℕ) (tag : Tag) (q : Tag × ℕ) → takes net config p r u path tag ≡ Some q → Taking r u tag q
  taking r u path tag q e = by (block_at net config r u) refl
    where
      by : (o : Option Session) → block_at net config r u ≡ o → Taking r u tag q
      by None at =
          let a = unless_parts (is_looped net r u path) (imported net p u n tag None) q (sym (takes_by net p config lawful r u n path tag number None at) ∙ e) in
          absurd (let clash = a.1 in cc)
      by (Some b) at =
          let a = unless_parts (is_looped net r u path) (imported net p u n tag (Some b)) q (sym (takes_by net p config lawful r u n path tag number (Some b) at) ∙ e) in
          of_line (find (λ (i : Import). i.class == n && (is_peer net u || same_tag i.tag tag)) b.imports) refl a.1
        where
          of_line : (x : Option Import) → find (λ (i : Import). i.class == n && (is_peer net u || same_tag i.tag tag)) b.imports ≡ x
              → given (find (λ (i : Import). i.class == n && (is_peer net u || same_tag i.tag tag)) b.imports) ≡ Some q → Taking r u tag q
          of_line None e given_is = absurd (let clash : None ≡ Some q = rw e at given_is in cc)
          of_line (Some i) e given_is =
              let f = find_parts (λ (i : Import). i.class == n && (is_peer net u || same_tag i.tag tag)) b.imports i e in
              let parts = and_parts (i.class == n) (is_peer net u || same_tag i.tag tag) f.2 in
              let same : Some (i.set, i.pref) ≡ Some q = rw e at given_is in
              let is : (i.set, i.pref) ≡ q = cc in
              record { block = b; found = at; rule = i; at = (f.0, f.1); class = eqb-true i.class n parts.0; asks = parts.1; sets = ap (λ (x : Tag × ℕ). x.0) is; prefers = ap (λ (x : Tag × ℕ). x.1) is }

  pub given_stands : (x : Part) → x.config ≡ config → (r : ℕ) (t : Tag) → GivesTag net p x r t → (t ≡ no_tag) ⊎ StandsIn n config t
  given_stands x same r t (inl own) = own_stands r t (ap (λ c. own_tag net c p r) (sym same) ∙ own.1)
  given_stands x same r t (inr g) =
      let y = taking r g.0 g.1 g.2 (t, g.3) (ap (λ c. takes net c p r g.0 g.1 g.2) (sym same) ∙ g.4) in
      let s = session_in r g.0 y.block y.found in
      inr (s.0, s.1, inr (y.block, s.2, inl (y.rule, y.at, y.class, inr y.sets)))

  -- ---- what is asked for

  tagged : (peer : Bool) (tag : Tag) → peer ≡ false → MatchBool peer (tag ≡ no_tag) (IsTrue (is_tag tag)) → is_tag tag ≡ true
  tagged true tag off h = absurd (true≢false off)
  tagged false tag off h = h

  sent_some : (t k : Tag) (b : Bool) → sent t b ≡ Some k → b ≡ true
  sent_some t k true h = refl
  sent_some t k false h = absurd cc

  sent_stands : (r z : ℕ) (t k : Tag) → sends net config p r z t ≡ Some k → StandsIn n config t × (is_tag t ≡ true)
  sent_stands r z t k e = by (block_at net config r z) refl
    where
      by : (o : Option Session) → block_at net config r z ≡ o → StandsIn n config t × (is_tag t ≡ true)
      by None at = absurd (let clash : None ≡ Some k = sym (sends_by net p config lawful r z n t number None at) ∙ e in cc)
      by (Some b) at =
          let some = sent_some (told net p z t) k _ (sym (sends_by net p config lawful r z n t number (Some b) at) ∙ e) in
          let line = is_some_parts (find (λ (e : Export). e.class == n && same_tag e.tag t) b.exports) some in
          let f = find_parts (λ (e : Export). e.class == n && same_tag e.tag t) b.exports line.0 line.1 in
          let parts = and_parts (line.0.class == n) (same_tag line.0.tag t) f.2 in
          let same : line.0.tag ≡ t = same_tag-is line.0.tag t parts.1 in
          let s = session_in r z b at in
          let keeps = AllByRecursion_at (IsExport (length config.classes)) b.exports f.0 line.0 (block_in net config lawful r z b at).exports f.1 in
          ((s.0, s.1, inr (b, s.2, inr (line.0, (f.0, f.1), eqb-true line.0.class n parts.0, same))), ap is_tag (sym same) ∙ keeps.1)

  asked_stands : (r z : ℕ) (path : List ℕ) (t : Tag) (q : Tag × ℕ) → is_router net r ≡ true → takes net config p z r path t ≡ Some q → StandsIn n config t × (is_tag t ≡ true)
  asked_stands r z path t q router e =
      let y = taking z r path t q e in
      let off = router_no_peer net r router in
      let same : y.rule.tag ≡ t = same_tag-is y.rule.tag t (elim (or_cases (is_peer net r) (same_tag y.rule.tag t) y.asks) [ inl peer ↦ absurd (both_ways (is_peer net r) off peer) | inr is ↦ is ]) in
      let s = session_in z r y.block y.found in
      let keeps = AllByRecursion_at (IsImport (length config.classes) y.block) y.block.imports y.at.0 y.rule (block_in net config lawful z r y.block y.found).imports y.at.1 in
      let named : is_tag y.rule.tag ≡ true = tagged y.block.peer y.rule.tag (block_kind net config z r y.block y.found ∙ off) keeps.1 in
      ((s.0, s.1, inr (y.block, s.2, inl (y.rule, y.at, y.class, inl same))), ap is_tag (sym same) ∙ named)

  pub read_stands : (x : Part) → x.config ≡ config → (r : ℕ) (t : Tag) → is_router net r ≡ true → ReadsTag net p x r t → StandsIn n config t × (is_tag t ≡ true)
  read_stands x same r t router (inl s) = sent_stands r s.0 t s.1 (ap (λ c. sends net c p r s.0 t) (sym same) ∙ s.2)
  read_stands x same r t router (inr s) = asked_stands r s.0 s.1 t s.2 router (ap (λ c. takes net c p s.0 r s.1 t) (sym same) ∙ s.4)

one_way : (net : PlainNet) (p : PlainPrefix) (x y : Part) (m n : ℕ) → IsConfig x.config → IsConfig y.config → IsNumber x.config p m → IsNumber y.config p n
    → ((t : Tag) → IsTrue (is_tag t) → StandsIn m x.config t → StandsIn n y.config t → ⊥) → (r : ℕ) (t : Tag) → is_router net r ≡ true → GivesTag net p x r t → ReadsTag net p y r t → ⊥
one_way net p x y m n lawful lawful' one two apart r t router gives reads =
    let s = read_stands net y.config lawful' p n two y refl r t router reads in
    elim (given_stands net x.config lawful p m one x refl r t gives) [
      | inr stands ↦ apart t s.1 stands s.0
      | inl none ↦ true≢false (sym s.1 ∙ ap is_tag none)
    ]

pub are_apart : (net : PlainNet) (p : PlainPrefix) (x y : Part) (m n : ℕ) → IsConfig x.config → IsConfig y.config → IsNumber x.config p m → IsNumber y.config p n
    → HaveNoTagInCommon m n x.config y.config → AreApart net p x y
are_apart net p x y m n lawful lawful' one two none = record {
  one = one_way net p x y m n lawful lawful' one two none;
  other = one_way net p y x n m lawful' lawful two one (λ t tag here there. none t tag there here);
}
