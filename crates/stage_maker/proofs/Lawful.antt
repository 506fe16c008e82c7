-- What is made of two configurations is one.
use Rattle.std.proofs.Common.{◌≡◌, ◌≢◌, ℕ, ◌<◌, ◌^◌, Bool, true, false, List, [], ◌∷◌, length, map, refl, sym, ap, ◌∙◌, subst}
use Rattle.std.specs.Prelude.{IsTrue, MatchBool, nat_eq, if◌then◌else◌}
use Rattle.std.specs.List.{AllByRecursion, IsDistinct}
use Rattle.std.specs.Str.{bytes_eq}
use Rattle.std.proofs.lemmas.List.{length-map}
use Rattle.list_law.proofs.Each.{AllByRecursion-map, AllByRecursion-weaker}
use Rattle.config_base.specs.declared.config.RouterConfig.{RouterConfig}
use Rattle.config_base.specs.declared.config.Session.{Session}
use Rattle.config_base.specs.declared.config.Import.{Import}
use Rattle.config_base.specs.Configs.{Ascend, IsConfig, IsImport, IsRouter, IsSession, PlainConfig, tag_key}
use Rattle.net_base.specs.Numbers.{is_tag, no_tag}
use Rattle.net_base.specs.Prefixes.{PlainPattern}
use Rattle.stage_classes.specs.declared.cell.Cell.{Cell}
use Rattle.stage_blocks.proofs.Spreading.{exports_keep, exports_spread_right, imports_keep, imports_spread_right}
use Rattle.stage_maker.specs.Alike.{AreAlike, AreOrdered, HasOrder, SameNeighbour, SameNeighbours, SameRouter}
use Rattle.stage_maker.specs.Joined.{classes_of, router_of, routers_of, session_of, sessions_of}
use Rattle.stage_maker.specs.Laws.{StagesAreLawful}
use Rattle.stage_maker.proofs.OwnLines.{own_ascends, own_keep}

module _ (cells : List Cell) (m n : ℕ) where
  added_keep : (s : Session) (k : Bool) (rs : List Import) → AllByRecursion (IsImport n s) rs → AllByRecursion (IsImport n s) (if k then [] else rs)
  added_keep s true rs all = tt
  added_keep s false rs all = all

  added_ascend : (k : Bool) (rs : List Import) → Ascend (map (λ (r : Import). tag_key r.class r.tag) rs) → Ascend (map (λ (r : Import). tag_key r.class r.tag) (if k then [] else rs))
  added_ascend true rs up = tt
  added_ascend false rs up = up

  -- the rules of an import know of its block only whether it is a peer's
  of_kind : (a b : Session) → a.peer ≡ b.peer → (rs : List Import) → AllByRecursion (IsImport n b) rs → AllByRecursion (IsImport n a) rs
  of_kind a b same rs all =
      AllByRecursion-weaker (IsImport n b) (IsImport n a) rs (λ r h. (h.0, subst (λ k. MatchBool k (r.tag ≡ no_tag) (IsTrue (is_tag r.tag))) (sym same) h.1, h.2, h.3)) all

  session_keeps : (a b : Session) → SameNeighbour a b → IsSession m a → IsSession n b → IsSession (length cells) (session_of cells a b)
  session_keeps a b same one two = record {
    number = one.number;
    imports = imports_keep cells a.imports (if a.peer then [] else b.imports) m n (session_of cells a b) one.imports (added_keep a a.peer b.imports (of_kind a b same.peer b.imports two.imports));
    import_order = imports_spread_right.order cells a.imports (if a.peer then [] else b.imports) one.import_order (added_ascend a.peer b.imports two.import_order);
    exports = exports_keep cells a.exports b.exports m n one.exports two.exports;
    export_order = exports_spread_right.order cells a.exports b.exports one.export_order two.export_order;
  }

  sessions_keep : (xs ys : List Session) → SameNeighbours xs ys → AllByRecursion (IsSession m) xs → AllByRecursion (IsSession n) ys → AllByRecursion (IsSession (length cells)) (sessions_of cells xs ys)
  sessions_keep [] [] same all all' = tt
  sessions_keep [] (y ∷ ys) same all all' = tt
  sessions_keep (x ∷ xs) [] same all all' = tt
  sessions_keep (x ∷ xs) (y ∷ ys) same all all' = (session_keeps x y same.0 all.0 all'.0, sessions_keep xs ys same.1 all.1 all'.1)

  session_names : (xs ys : List Session) → SameNeighbours xs ys → map (λ (s : Session). s.name) (sessions_of cells xs ys) ≡ map (λ (s : Session). s.name) xs
  session_names [] [] same = refl
  session_names [] (y ∷ ys) same = absurd same
  session_names (x ∷ xs) [] same = absurd same
  session_names (x ∷ xs) (y ∷ ys) same = ap (λ zs. x.name ∷ zs) (session_names xs ys same.1)

  router_keeps : (a b : RouterConfig) → SameRouter a b → IsRouter m a → IsRouter n b → IsRouter (length cells) (router_of cells a b)
  router_keeps a b same one two = record {
    number = one.number;
    identifier = one.identifier;
    own = own_keep cells cells a.own m one.own;
    own_order = own_ascends cells 1 cells a.own one.own_order;
    sessions = sessions_keep a.sessions b.sessions same.sessions one.sessions two.sessions;
    names = subst (IsDistinct bytes_eq) (sym (session_names a.sessions b.sessions same.sessions)) one.names;
  }

  routers_keep : (xs ys : List RouterConfig) → AreAlike xs ys → AllByRecursion (IsRouter m) xs → AllByRecursion (IsRouter n) ys → AllByRecursion (IsRouter (length cells)) (routers_of cells xs ys)
  routers_keep [] [] same all all' = tt
  routers_keep [] (y ∷ ys) same all all' = tt
  routers_keep (x ∷ xs) [] same all all' = tt
  routers_keep (x ∷ xs) (y ∷ ys) same all all' = (router_keeps x y same.0 all.0 all'.0, routers_keep xs ys same.1 all.1 all'.1)

-- what a router's block has besides its lines
of_each : {A : Type 0} (f : RouterConfig → A) (cells : List Cell) → ((a b : RouterConfig) → f (router_of cells a b) ≡ f a) → (xs ys : List RouterConfig) → AreAlike xs ys
    → map f (routers_of cells xs ys) ≡ map f xs
of_each f cells same [] [] alike = refl
of_each f cells same [] (y ∷ ys) alike = absurd alike
of_each f cells same (x ∷ xs) [] alike = absurd alike
of_each f cells same (x ∷ xs) (y ∷ ys) alike = ap (λ zs. f (router_of cells x y) ∷ zs) (of_each f cells same xs ys alike.1) ∙ ap (λ z. z ∷ map f xs) (same x y)

pub stages_are_lawful : StagesAreLawful
stages_are_lawful cells start other may =
    let many : length (classes_of cells) ≡ length cells = length-map cells (λ (c : Cell). c.patterns) in
    record {
      count = subst (λ k. k < 2 ^ 32) (sym many) may.count;
      patterns = AllByRecursion-map (λ (c : Cell). c.patterns) (λ (ps : List PlainPattern). ps ≢ []) cells may.patterns;
      routers =
          subst (λ k. AllByRecursion (IsRouter k) (routers_of cells start.routers other.routers)) (sym many)
          (routers_keep cells (length start.classes) (length other.classes) start.routers other.routers may.alike may.start_is.routers may.other_is.routers);
      names = subst (IsDistinct bytes_eq) (sym (of_each (λ (r : RouterConfig). r.name) cells (λ a b. refl) start.routers other.routers may.alike)) may.start_is.names;
      asns = subst (IsDistinct nat_eq) (sym (of_each (λ (r : RouterConfig). r.asn) cells (λ a b. refl) start.routers other.routers may.alike)) may.start_is.asns;
      ids = subst (IsDistinct nat_eq) (sym (of_each (λ (r : RouterConfig). r.id) cells (λ a b. refl) start.routers other.routers may.alike)) may.start_is.ids;
    }

-- ---- the lines of lawful blocks ascend

sessions_ordered : (n : ℕ) (ss : List Session) → AllByRecursion (IsSession n) ss → AllByRecursion HasOrder ss
sessions_ordered n ss all = AllByRecursion-weaker (IsSession n) HasOrder ss (λ s h. record { imports = h.import_order; exports = h.export_order }) all

pub are_ordered : (config : PlainConfig) → IsConfig config → AllByRecursion AreOrdered config.routers
are_ordered config lawful = AllByRecursion-weaker (IsRouter (length config.classes)) AreOrdered config.routers (λ r h. sessions_ordered (length config.classes) r.sessions h.sessions) lawful.routers
