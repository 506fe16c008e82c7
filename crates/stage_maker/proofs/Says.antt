-- What is made of two configurations says of a prefix what a stage between them says.
use Rattle.std.proofs.Common.{◌≡◌, ℕ, ◌+◌, ◌≤◌, Bool, true, false, not, List, [], length, Option, Some, None, inl, inr, refl, sym, ap, ap₂, ◌∙◌, arith}
use Rattle.std.specs.Prelude.{◌||◌, ◌&&◌, ◌==◌, is_some, option_map, if◌then◌else◌}
use Rattle.std.specs.List.{AllByRecursion, find}
use Rattle.std.specs.Option.{option_map_or, option_or}
use Rattle.std.specs.Str.{bytes_eq}
use Rattle.std.proofs.lemmas.Bool.{and_parts, cases_Bool, eq-eqb, eqb-true, false≢true, le-leb, ltb-false}
use Rattle.std.proofs.lemmas.List.{length-append}
use Rattle.std.proofs.lemmas.Option.{slice_get_past}
use Rattle.list_law.proofs.Options.{cases_Option, option_and_then_parts, when_parts}
use Rattle.list_law.proofs.Tests.{find_parts, list_any-find}
use Rattle.list_law.proofs.Each.{AllByRecursion_at, AllByRecursion-weaker}
use Rattle.net_base.specs.declared.numbers.Tag.{Tag}
use Rattle.net_base.specs.declared.net.Site.{Site}
use Rattle.net_base.specs.Network.{PlainNet, is_named, is_peer, is_router, sites}
use Rattle.net_base.specs.Numbers.{no_tag}
use Rattle.net_base.specs.Prefixes.{PlainPrefix, same_prefix}
use Rattle.net_base.proofs.RoutersAndPeers.{router_no_peer}
use Rattle.policy_base.specs.Governing.{some_contains}
use Rattle.config_base.specs.declared.config.RouterConfig.{RouterConfig}
use Rattle.config_base.specs.declared.config.Session.{Session}
use Rattle.config_base.specs.declared.config.Import.{Import}
use Rattle.config_base.specs.declared.config.Export.{Export}
use Rattle.config_base.specs.declared.config.Origination.{Origination}
use Rattle.config_base.specs.Configs.{IsConfig, IsExport, IsImport, IsOrigination, IsRouter, IsSession, PlainConfig}
use Rattle.config_base.specs.Lines.{block_at, class_of, is_looped, line_by, own_tag, router_at, same_tag}
use Rattle.rollout_base.specs.Lines.{sends, takes}
use Rattle.rollout_base.specs.Stages.{IsStage}
use Rattle.stage_classes.specs.declared.cell.Cell.{Cell}
use Rattle.stage_classes.specs.Laws.{cell_of, paired}
use Rattle.stage_blocks.proofs.Spreading.{exports_spread_right, imports_spread_right, none_passes}
use Rattle.stage_blocks.specs.Merging.{put_export, put_import}
use Rattle.stage_maker.specs.Joined.{imports_in, is_of_class, joined, put_own, router_of, session_of}
use Rattle.stage_maker.specs.Laws.{MayJoin, StagesAreMade}
use Rattle.stage_maker.proofs.Found.{FoundRouter, FoundSession, IsPlaced, everywhere, no_router, nowhere, placed, router, router_found, session_found, unplaced}
use Rattle.stage_maker.proofs.OwnLines.{own_found}

-- ---- what is made of a line that is found

-- what an import line gives
abbrev pub given : Option Import → Option (Tag × ℕ)
given None = None
given (Some r) = Some (r.set, r.pref)

line_by-given : (net : PlainNet) (class from : ℕ) (tag : Tag) (b : Session) → line_by net class from tag b ≡ given (find (λ (r : Import). r.class == class && (is_peer net from || same_tag r.tag tag)) b.imports)
line_by-given net class from tag b = elim (cases_Option (find (λ (r : Import). r.class == class && (is_peer net from || same_tag r.tag tag)) b.imports)) [
  | inl none ↦ rw none refl
  | inr some ↦ (let e = some.1 in rw e refl)
]

given-put : (n : ℕ) (o : Option Import) → given (option_map (put_import n) o) ≡ given o
given-put n None = refl
given-put n (Some r) = refl

given-or : (a b : Option Import) → given (option_or a b) ≡ option_or (given a) (given b)
given-or None b = refl
given-or (Some r) b = refl

-- what is sent, where there is a line
abbrev pub sent : Tag → Bool → Option Tag
sent t b = if b then Some t else None

sent-or : (t : Tag) (a b : Option Export) (n : ℕ) → sent t (is_some (option_map (put_export n) (option_or a b))) ≡ option_or (sent t (is_some a)) (sent t (is_some b))
sent-or t None None n = refl
sent-or t None (Some b) n = refl
sent-or t (Some a) b n = refl

-- of a route that is looped nothing is taken, nor where no line is
abbrev nothing : Option (Tag × ℕ)
nothing = None

nothing_looped : (b : Bool) → (if b then None else nothing) ≡ nothing
nothing_looped true = refl
nothing_looped false = refl

-- ---- no line is of a class behind the last one

beyond : (m n : ℕ) → m ≤ n → (m == (n + 1)) ≡ false
beyond m n le = elim (cases_Bool (m == (n + 1))) [
  | inl same ↦ absurd (let e = eqb-true m (n + 1) same in omega (arith, le, e))
  | inr other ↦ other
]

none_beyond : {A : Type 0} (class : A → ℕ) (n : ℕ) (test : A → Bool) (xs : List A) → AllByRecursion (λ x. class x ≤ n) xs → find (λ x. class x == (n + 1) && test x) xs ≡ None
none_beyond class n test xs all = none_passes (λ x. class x ≤ n) (λ x. class x == (n + 1) && test x) (λ x le. ap (λ b. b && test x) (beyond (class x) n le)) xs all

-- The number by which the lines of a configuration are looked up: that of the class, or one behind the last class, which has no lines.
pub data IsNumber (config : PlainConfig) (p : PlainPrefix) (n : ℕ) : Type 0 where
  of_class : class_of config p ≡ Some n → IsNumber config p n
  behind : class_of config p ≡ None → n ≡ length config.classes + 1 → IsNumber config p n

module _ (net : PlainNet) (config : PlainConfig) (lawful : IsConfig config) where
  pub block_in : (r z : ℕ) (b : Session) → block_at net config r z ≡ Some b → IsSession (length config.classes) b
  block_in r z b e =
      let c = option_and_then_parts _ (router_at net config r) b e in
      let w = when_parts (is_router net r) (find (λ (d : RouterConfig). is_named net d.name r) config.routers) c.0 c.1 in
      let f = find_parts (λ (d : RouterConfig). is_named net d.name r) config.routers c.0 w.1 in
      let g = find_parts _ c.0.sessions b c.2 in
      let router = AllByRecursion_at (IsRouter (length config.classes)) config.routers f.0 c.0 lawful.routers f.1 in
      AllByRecursion_at (IsSession (length config.classes)) c.0.sessions g.0 b router.sessions g.1

  pub router_in : (r : ℕ) (c : RouterConfig) → router_at net config r ≡ Some c → IsRouter (length config.classes) c
  router_in r c e =
      let w = when_parts (is_router net r) (find (λ (d : RouterConfig). is_named net d.name r) config.routers) c e in
      let f = find_parts (λ (d : RouterConfig). is_named net d.name r) config.routers c w.1 in
      AllByRecursion_at (IsRouter (length config.classes)) config.routers f.0 c lawful.routers f.1

-- ---- what the lines of a block make of a tag, by the number of a class

module _ (net : PlainNet) (p : PlainPrefix) where
  -- the tag that goes to a neighbour with a route
  abbrev pub told : ℕ → Tag → Tag
  told z tag = if is_peer net z then no_tag else tag

  abbrev pub exported : ℕ → ℕ → Tag → Option Session → Option Tag
  exported z n tag None = None
  exported z n tag (Some b) = sent (told z tag) (is_some (find (λ (e : Export). e.class == n && same_tag e.tag tag) b.exports))

  abbrev pub imported : ℕ → ℕ → Tag → Option Session → Option (Tag × ℕ)
  imported u n tag None = None
  imported u n tag (Some b) = given (find (λ (r : Import). r.class == n && (is_peer net u || same_tag r.tag tag)) b.imports)

  abbrev pub unless_looped : ℕ → ℕ → List ℕ → Option (Tag × ℕ) → Option (Tag × ℕ)
  unless_looped r u path o = if is_looped net r u path then None else o

  abbrev pub tag_given : Option Origination → Tag
  tag_given None = no_tag
  tag_given (Some o) = o.tag

  abbrev pub owned : ℕ → Option RouterConfig → Tag
  owned n None = no_tag
  owned n (Some c) = tag_given (find (λ (o : Origination). o.class == n && same_prefix o.prefix p) c.own)

  module _ (config : PlainConfig) where
    sends_of : (r z n : ℕ) (tag : Tag) → class_of config p ≡ Some n → (o : Option Session) → block_at net config r z ≡ o → sends net config p r z tag ≡ exported z n tag o
    sends_of r z n tag e None at = rw (e, at) refl
    sends_of r z n tag e (Some b) at = rw (e, at) (ap (sent (told z tag)) (list_any-find (λ (e : Export). e.class == n && same_tag e.tag tag) b.exports))

    pub sends_none : (r z : ℕ) (tag : Tag) → class_of config p ≡ None → sends net config p r z tag ≡ None
    sends_none r z tag e = rw e refl

    takes_of : (r u n : ℕ) (path : List ℕ) (tag : Tag) → class_of config p ≡ Some n → (o : Option Session) → block_at net config r u ≡ o
        → takes net config p r u path tag ≡ unless_looped r u path (imported u n tag o)
    takes_of r u n path tag e None at = rw (e, at) refl
    takes_of r u n path tag e (Some b) at = rw (e, at) (ap (unless_looped r u path) (line_by-given net n u tag b))

    pub takes_none : (r u : ℕ) (path : List ℕ) (tag : Tag) → class_of config p ≡ None → takes net config p r u path tag ≡ None
    takes_none r u path tag e = rw e refl

    own_of : (r n : ℕ) → class_of config p ≡ Some n → (o : Option RouterConfig) → router_at net config r ≡ o → own_tag net config p r ≡ owned n o
    own_of r n e None at = rw at refl
    own_of r n e (Some c) at = by (find (λ (o : Origination). o.class == n && same_prefix o.prefix p) c.own) refl
      where
        by : (x : Option Origination) → find (λ (o : Origination). o.class == n && same_prefix o.prefix p) c.own ≡ x
            → own_tag net config p r ≡ tag_given (find (λ (o : Origination). o.class == n && same_prefix o.prefix p) c.own)
        by None f = rw (at, e, f) refl
        by (Some o) f = rw (at, e, f) refl

    pub own_none : (r : ℕ) → class_of config p ≡ None → (o : Option RouterConfig) → router_at net config r ≡ o → own_tag net config p r ≡ no_tag
    own_none r e None at = rw at refl
    own_none r e (Some c) at = rw (at, e) refl

    module _ (lawful : IsConfig config) where
      pub sends_by : (r z n : ℕ) (tag : Tag) → IsNumber config p n → (o : Option Session) → block_at net config r z ≡ o → sends net config p r z tag ≡ exported z n tag o
      sends_by r z n tag (of_class e) o at = sends_of r z n tag e o at
      sends_by r z n tag (behind e is) None at = sends_none r z tag e
      sends_by r z n tag (behind e is) (Some b) at =
          let keeps = block_in net config lawful r z b at in
          sends_none r z tag e
          ∙ sym (ap (λ o. sent (told z tag) (is_some o))
          (ap (λ m. find (λ (e : Export). e.class == m && same_tag e.tag tag) b.exports) is
          ∙ none_beyond (λ (e : Export). e.class) (length config.classes) (λ (e : Export). same_tag e.tag tag) b.exports
          (AllByRecursion-weaker (IsExport (length config.classes)) (λ (e : Export). e.class ≤ length config.classes) b.exports (λ e h. h.0.1) keeps.exports)))

      pub takes_by : (r u n : ℕ) (path : List ℕ) (tag : Tag) → IsNumber config p n → (o : Option Session) → block_at net config r u ≡ o
          → takes net config p r u path tag ≡ unless_looped r u path (imported u n tag o)
      takes_by r u n path tag (of_class e) o at = takes_of r u n path tag e o at
      takes_by r u n path tag (behind e is) None at = takes_none r u path tag e ∙ sym (nothing_looped (is_looped net r u path))
      takes_by r u n path tag (behind e is) (Some b) at =
          let keeps = block_in net config lawful r u b at in
          takes_none r u path tag e
          ∙ sym (ap (λ o. unless_looped r u path (given o))
          (ap (λ m. find (λ (r : Import). r.class == m && (is_peer net u || same_tag r.tag tag)) b.imports) is
          ∙ none_beyond (λ (r : Import). r.class) (length config.classes) (λ (r : Import). is_peer net u || same_tag r.tag tag) b.imports
          (AllByRecursion-weaker (IsImport (length config.classes) b) (λ (r : Import). r.class ≤ length config.classes) b.imports (λ r h. h.0.1) keeps.imports))
          ∙ nothing_looped (is_looped net r u path))

      pub own_by : (r n : ℕ) → IsNumber config p n → (o : Option RouterConfig) → router_at net config r ≡ o → own_tag net config p r ≡ owned n o
      own_by r n (of_class e) o at = own_of r n e o at
      own_by r n (behind e is) None at = own_none r e None at
      own_by r n (behind e is) (Some c) at =
          let keeps = router_in net config lawful r c at in
          own_none r e (Some c) at
          ∙ sym (ap tag_given
          (ap (λ m. find (λ (o : Origination). o.class == m && same_prefix o.prefix p) c.own) is
          ∙ none_beyond (λ (o : Origination). o.class) (length config.classes) (λ (o : Origination). same_prefix o.prefix p) c.own
          (AllByRecursion-weaker (IsOrigination (length config.classes)) (λ (o : Origination). o.class ≤ length config.classes) c.own (λ o h. h.0.1) keeps.own)))

-- ---- the stage

-- the prefix is in no cell, or in that of its classes
pub data InCell (cells : List Cell) (start other : PlainConfig) (p : PlainPrefix) : Type 0 where
  in_none : cell_of cells p ≡ None → class_of start p ≡ None → class_of other p ≡ None → InCell cells start other p
  in_one : (c : Cell) → cell_of cells p ≡ Some c → IsNumber start p c.first → IsNumber other p c.second → InCell cells start other p

module _ (cells : List Cell) (start other : PlainConfig) (p : PlainPrefix) where
  number_is : (config : PlainConfig) (m n : ℕ) → class_of config p ≡ Some m → n ≡ m → IsNumber config p n
  number_is config m n e same = of_class (e ∙ ap Some (sym same))

  pub in_cell_of : (x : Option Cell) (o n : Option ℕ) → cell_of cells p ≡ x → class_of start p ≡ o → class_of other p ≡ n
      → option_map (λ (c : Cell). (c.first, c.second)) x ≡ paired o n (length start.classes + 1) (length other.classes + 1) → InCell cells start other p
  in_cell_of None None None at a b h = in_none at a b
  in_cell_of None None (Some n) at a b h = absurd cc
  in_cell_of None (Some m) None at a b h = absurd cc
  in_cell_of None (Some m) (Some n) at a b h = absurd cc
  in_cell_of (Some c) None None at a b h = absurd cc
  in_cell_of (Some c) None (Some n) at a b h =
      let same : (c.first, c.second) ≡ (length start.classes + 1, n) = cc in
      in_one c at (behind a (ap (λ (x : ℕ × ℕ). x.0) same)) (number_is other n c.second b (ap (λ (x : ℕ × ℕ). x.1) same))
  in_cell_of (Some c) (Some m) None at a b h =
      let same : (c.first, c.second) ≡ (m, length other.classes + 1) = cc in
      in_one c at (number_is start m c.first a (ap (λ (x : ℕ × ℕ). x.0) same)) (behind b (ap (λ (x : ℕ × ℕ). x.1) same))
  in_cell_of (Some c) (Some m) (Some n) at a b h =
      let same : (c.first, c.second) ≡ (m, n) = cc in
      in_one c at (number_is start m c.first a (ap (λ (x : ℕ × ℕ). x.0) same)) (number_is other n c.second b (ap (λ (x : ℕ × ℕ). x.1) same))

module _ (net : PlainNet) (cells : List Cell) (start other : PlainConfig) (p : PlainPrefix) (may : MayJoin cells start other) where
  -- the stage
  abbrev stage : PlainConfig
  stage = joined cells start other

  -- ---- where the prefix is in no cell

  module _ (none : cell_of cells p ≡ None) (no_start : class_of start p ≡ None) (no_other : class_of other p ≡ None) where
    no_class : class_of stage p ≡ None
    no_class = unplaced cells p 1 none

    nothing_said : IsStage net p start other stage
    nothing_said = record {
      own = λ r. own_none net p stage r no_class (router_at net stage r) refl ∙ sym (own_none net p start r no_start (router_at net start r) refl);
      sent = λ r z tag. sends_none net p stage r z tag no_class ∙ sym (ap₂ option_or (sends_none net p start r z tag no_start) (sends_none net p other r z tag no_other));
      taken = λ r u path tag is. takes_none net p stage r u path tag no_class ∙ sym (ap₂ option_or (takes_none net p start r u path tag no_start) (takes_none net p other r u path tag no_other));
      heard = λ r u path tag is. takes_none net p stage r u path tag no_class ∙ sym (takes_none net p start r u path tag no_start);
    }

  -- ---- where it is in one

  module _ (c : Cell) (cell : cell_of cells p ≡ Some c) (first : IsNumber start p c.first) (second : IsNumber other p c.second) where
    at : IsPlaced cells p 1 c
    at = placed cells p 1 c cell

    class_is : class_of stage p ≡ Some (at.place + 1)
    class_is = at.class ∙ ap Some (omega arith)

    -- what is sent
    sent_of : (r z : ℕ) (tag : Tag) → FoundSession cells (block_at net stage r z) (block_at net start r z) (block_at net other r z)
        → sends net stage p r z tag ≡ option_or (sends net start p r z tag) (sends net other p r z tag)
    sent_of r z tag (nowhere x y w) =
        sends_of net p stage r z (at.place + 1) tag class_is None x
        ∙ sym (ap₂ option_or (sends_by net p start may.start_is r z c.first tag first None y) (sends_by net p other may.other_is r z c.second tag second None w))
    sent_of r z tag (everywhere a b same x y w) =
        let lawful = block_in net start may.start_is r z a y in
        sends_of net p stage r z (at.place + 1) tag class_is (Some (session_of cells a b)) x
        ∙ ap (λ o. sent (told net p z tag) (is_some o)) (exports_spread_right.both cells a.exports b.exports at.place c tag lawful.export_order at.at)
        ∙ sent-or (told net p z tag) (find (λ (e : Export). e.class == c.first && same_tag e.tag tag) a.exports) (find (λ (e : Export). e.class == c.second && same_tag e.tag tag) b.exports) (at.place + 1)
        ∙ sym (ap₂ option_or (sends_by net p start may.start_is r z c.first tag first (Some a) y) (sends_by net p other may.other_is r z c.second tag second (Some b) w))

    -- what is taken of a router
    asked : (u : ℕ) (tag : Tag) → is_peer net u ≡ false → (n : ℕ) (rs : List Import)
        → find (λ (r : Import). r.class == n && (is_peer net u || same_tag r.tag tag)) rs ≡ find (λ (r : Import). r.class == n && same_tag r.tag tag) rs
    asked u tag off n rs = ap (λ b. find (λ (r : Import). r.class == n && (b || same_tag r.tag tag)) rs) off

    both_looped : (b : Bool) (x y : Option (Tag × ℕ)) → (if b then None else option_or x y) ≡ option_or (if b then None else x) (if b then None else y)
    both_looped true x y = refl
    both_looped false x y = refl

    taken_of : (r u : ℕ) (path : List ℕ) (tag : Tag) → is_peer net u ≡ false → FoundSession cells (block_at net stage r u) (block_at net start r u) (block_at net other r u)
        → ((a : Session) → block_at net start r u ≡ Some a → a.peer ≡ false)
        → takes net stage p r u path tag ≡ option_or (takes net start p r u path tag) (takes net other p r u path tag)
    taken_of r u path tag off (nowhere x y w) kind =
        takes_of net p stage r u (at.place + 1) path tag class_is None x
        ∙ nothing_looped (is_looped net r u path)
        ∙ sym (ap₂ option_or (takes_by net p start may.start_is r u c.first path tag first None y ∙ nothing_looped (is_looped net r u path))
        (takes_by net p other may.other_is r u c.second path tag second None w ∙ nothing_looped (is_looped net r u path)))
    taken_of r u path tag off (everywhere a b same x y w) kind =
        let lawful = block_in net start may.start_is r u a y in
        let one = find (λ (r : Import). r.class == c.first && same_tag r.tag tag) a.imports in
        let two = find (λ (r : Import). r.class == c.second && same_tag r.tag tag) b.imports in
        takes_of net p stage r u (at.place + 1) path tag class_is (Some (session_of cells a b)) x
        ∙ ap (λ o. unless_looped net p r u path (given o))
        (asked u tag off (at.place + 1) (imports_in cells a.imports (if a.peer then [] else b.imports))
        ∙ ap (λ k. find (λ (r : Import). r.class == (at.place + 1) && same_tag r.tag tag) (imports_in cells a.imports (if k then [] else b.imports))) (kind a y)
        ∙ imports_spread_right.both cells a.imports b.imports at.place c tag lawful.import_order at.at)
        ∙ ap (unless_looped net p r u path) (given-put (at.place + 1) (option_or one two) ∙ given-or one two)
        ∙ both_looped (is_looped net r u path) (given one) (given two)
        ∙ sym (ap₂ option_or
        (takes_by net p start may.start_is r u c.first path tag first (Some a) y ∙ ap (λ o. unless_looped net p r u path (given o)) (asked u tag off c.first a.imports))
        (takes_by net p other may.other_is r u c.second path tag second (Some b) w ∙ ap (λ o. unless_looped net p r u path (given o)) (asked u tag off c.second b.imports)))

    -- what is taken of a peer
    heard_of : (r u : ℕ) (path : List ℕ) (tag : Tag) → FoundSession cells (block_at net stage r u) (block_at net start r u) (block_at net other r u)
        → ((a : Session) → block_at net start r u ≡ Some a → a.peer ≡ true) → takes net stage p r u path tag ≡ takes net start p r u path tag
    heard_of r u path tag (nowhere x y w) kind =
        takes_of net p stage r u (at.place + 1) path tag class_is None x ∙ sym (takes_by net p start may.start_is r u c.first path tag first None y)
    heard_of r u path tag (everywhere a b same x y w) kind =
        let test : Import → Bool = λ r. is_peer net u || same_tag r.tag tag in
        takes_of net p stage r u (at.place + 1) path tag class_is (Some (session_of cells a b)) x
        ∙ ap (λ o. unless_looped net p r u path (given o))
        (ap (λ k. find (λ (r : Import). r.class == (at.place + 1) && test r) (imports_in cells a.imports (if k then [] else b.imports))) (kind a y)
        ∙ imports_spread_right.old cells a.imports at.place c test (λ n r. refl) at.at)
        ∙ ap (unless_looped net p r u path) (given-put (at.place + 1) (find (λ (r : Import). r.class == c.first && test r) a.imports))
        ∙ sym (takes_by net p start may.start_is r u c.first path tag first (Some a) y)

    -- own routes
    own_is : (r : ℕ) → FoundRouter cells (router_at net stage r) (router_at net start r) (router_at net other r) → own_tag net stage p r ≡ own_tag net start p r
    own_is r (no_router x y w) = own_of net p stage r (at.place + 1) class_is None x ∙ sym (own_by net p start may.start_is r c.first first None y)
    own_is r (router a b same x y w) =
        own_of net p stage r (at.place + 1) class_is (Some (router_of cells a b)) x
        ∙ ap (tag_given net p) (own_found cells p cells 1 at.place (at.place + 1) c a.own at.at (omega arith) on numbered)
        ∙ put_tag (find (λ (o : Origination). o.class == c.first && same_prefix o.prefix p) a.own)
        ∙ sym (own_by net p start may.start_is r c.first first (Some a) y)
      where
        on : some_contains c.patterns p ≡ true
        on = (find_parts (λ (d : Cell). some_contains d.patterns p) cells c cell).2

        numbered : is_of_class cells (at.place + 1) p ≡ true
        numbered = ap (λ o. option_map_or (λ n. n == (at.place + 1)) o false) class_is ∙ eq-eqb (at.place + 1) (at.place + 1) refl

        put_tag : (o : Option Origination) → tag_given net p (option_map (put_own (at.place + 1)) o) ≡ tag_given net p o
        put_tag None = refl
        put_tag (Some o) = refl

-- ---- the kind of a block

module _ (net : PlainNet) (config : PlainConfig) where
  abbrev same_kind : Bool → Bool → Bool
  same_kind true b = b
  same_kind false b = not b

  kind_of : (named own peer : Bool) → (named && same_kind own peer) ≡ true → own ≡ peer
  kind_of false own peer h = absurd (false≢true h)
  kind_of true true peer h = sym h
  kind_of true false true h = absurd (false≢true h)
  kind_of true false false h = refl

  pub block_kind : (r u : ℕ) (b : Session) → block_at net config r u ≡ Some b → b.peer ≡ is_peer net u
  block_kind r u b e =
      let c = option_and_then_parts _ (router_at net config r) b e in
      let g = find_parts _ c.0.sessions b c.2 in
      kind_of (is_named net b.name u) b.peer (is_peer net u) g.2

pub stages_are_made : StagesAreMade
stages_are_made net cells start other p may lawful =
    by (in_cell_of cells start other p (cell_of cells p) (class_of start p) (class_of other p) refl refl refl (may.pairs p lawful))
  where
    found : (r u : ℕ) → FoundSession cells (block_at net (joined cells start other) r u) (block_at net start r u) (block_at net other r u)
    found r u = session_found cells net start other may.alike r u

    -- who is no router is a peer, or nobody
    heard_by : (r u : ℕ) (path : List ℕ) (tag : Tag) (c : Cell) (cell : cell_of cells p ≡ Some c) (first : IsNumber start p c.first) (second : IsNumber other p c.second)
        → is_router net u ≡ false → (b : Bool) → is_peer net u ≡ b → takes net (joined cells start other) p r u path tag ≡ takes net start p r u path tag
    heard_by r u path tag c cell first second none_is true peer =
        heard_of net cells start other p may c cell first second r u path tag (found r u) (λ a y. block_kind net start r u a y ∙ peer)
    heard_by r u path tag c cell first second none_is false peer = nobody (found r u)
      where
        nowhere_named : (name : List ℕ) → is_named net name u ≡ false
        nowhere_named name =
            let past : length (sites net) ≤ u = omega (arith, beyond_all, length-append net.routers net.peers) in
            ap (λ o. option_map_or (λ (s : Site). bytes_eq s.name name) o false) (slice_get_past (sites net) u past)
          where
            beyond_all : length net.routers + length net.peers ≤ u
            beyond_all = ltb-false _ _ (rw (le-leb (length net.routers) u (ltb-false _ _ none_is)) at peer)

        nobody : FoundSession cells (block_at net (joined cells start other) r u) (block_at net start r u) (block_at net other r u)
            → takes net (joined cells start other) p r u path tag ≡ takes net start p r u path tag
        nobody (nowhere x y w) = heard_of net cells start other p may c cell first second r u path tag (nowhere x y w) (λ a is. absurd (let clash : None ≡ Some a = sym y ∙ is in cc))
        nobody (everywhere a b same x y w) =
            let d = option_and_then_parts _ (router_at net start r) a y in
            let g = find_parts _ d.0.sessions a d.2 in
            absurd (false≢true (sym (nowhere_named a.name) ∙ (and_parts (is_named net a.name u) _ g.2).0))

    by : InCell cells start other p → IsStage net p start other (joined cells start other)
    by (in_none none no_start no_other) = nothing_said net cells start other p may none no_start no_other
    by (in_one c cell first second) = record {
      own = λ r. own_is net cells start other p may c cell first second r (router_found cells net start other may.alike r);
      sent = λ r z tag. sent_of net cells start other p may c cell first second r z tag (found r z);
      taken = λ r u path tag is.
          let off = router_no_peer net u is in
          taken_of net cells start other p may c cell first second r u path tag off (found r u) (λ a y. block_kind net start r u a y ∙ off);
      heard = λ r u path tag none_is. heard_by r u path tag c cell first second none_is (is_peer net u) refl;
    }
