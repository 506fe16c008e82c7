-- Where nothing is in the way of stages, both configurations do the same with a prefix, or the new one takes over for it.
use Rattle.std.proofs.Common.{◌≡◌, ℕ, true, List, map, Some, refl, ap, inl, inr}
use Rattle.std.specs.Prelude.{◌==◌}
use Rattle.std.proofs.lemmas.Bool.{eq-eqb}
use Rattle.list_law.specs.Members.{IsIn}
use Rattle.list_law.proofs.Each.{AllByRecursion_at}
use Rattle.list_law.proofs.Members.{IsIn-append_left, IsIn-append_right, IsIn-filter, IsIn-flat_map, IsIn-map}
use Rattle.list_law.proofs.Tests.{find_parts}
use Rattle.net_base.specs.declared.numbers.Tag.{Tag}
use Rattle.net_base.specs.Network.{PlainNet}
use Rattle.net_base.specs.Prefixes.{PlainPrefix}
use Rattle.policy_base.specs.Governing.{some_contains}
use Rattle.config_base.specs.Configs.{PlainConfig, IsConfig}
use Rattle.config_base.specs.Lines.{class_of}
use Rattle.class_lines.specs.declared.class_line.ClassLine.{ClassLine}
use Rattle.class_lines.specs.ClassLines.{all_lines, export_line, import_line, session_lines, sessions_from}
use Rattle.class_lines.specs.Marks.{prefs_in, prefs_said}
use Rattle.class_lines.specs.Tables.{by_class}
use Rattle.rollout_base.specs.Lines.{takes}
use Rattle.rollout_base.specs.Mixtures.{Part}
use Rattle.stage_classes.specs.declared.cell.Cell.{Cell}
use Rattle.stage_classes.specs.Cells.{cells}
use Rattle.stage_classes.specs.Laws.{cell_of}
use Rattle.stage_law.proofs.Apart.{are_apart, session_in, taking}
use Rattle.stage_law.proofs.Mixed.{none_alike}
use Rattle.stage_law.proofs.Same.{say_alike}
use Rattle.stage_maker.specs.Alike.{AreAlike}
use Rattle.stage_maker.proofs.Says.{InCell, IsNumber, in_cell_of, in_none, in_one}
use Rattle.stage_check.specs.Laws.{StayOrGoOver}
use Rattle.stage_check.proofs.Free.{cells_serve, free_pairs_stay_or_go_over}
use Rattle.stage_check.proofs.NoTags.{routers_in, sessions_in}
use Rattle.renewal_law.specs.Change.{StaysOrGoesOver}
use Rattle.renewal_law.specs.Laws.{PrefixesStayOrGoOver}

-- a preference that a line of a class gives is among those of its lines
class_pref : (net : PlainNet) (config : PlainConfig) (p : PlainPrefix) (n : ℕ) → IsConfig config → IsNumber config p n → (r u : ℕ) (path : List ℕ) (tag : Tag) (q : Tag × ℕ)
    → takes net config p r u path tag ≡ Some q → IsIn (prefs_in (by_class config n)) q.1
class_pref net config p n lawful number r u path tag q e =
    let y = taking net config lawful p n number r u path tag q e in
    let s = session_in net config lawful p n number r u y.block y.found in
    let router = routers_in 0 config.routers s.0 s.1 in
    let session = sessions_in router.0 1 s.0.sessions y.block s.2 in
    let line = import_line router.0 session.0 y.rule in
    let in_block : IsIn (session_lines router.0 session.0 y.block) line =
    IsIn-append_left _ (map (export_line router.0 session.0) y.block.exports) line (IsIn-map (import_line router.0 session.0) y.block.imports y.rule y.at) in
    let there = router.1 line (IsIn-append_right _ (sessions_from router.0 1 s.0.sessions) line (session.1 line in_block)) in
    IsIn-flat_map (λ (l : ClassLine). prefs_said l.says) (by_class config n) line q.1
    (IsIn-filter (λ (l : ClassLine). l.class == n) (all_lines config) line there (eq-eqb y.rule.class n y.class)) (0, ap Some y.prefers)

module _ (net : PlainNet) (p : PlainPrefix) (old new : Part) (lawful : IsConfig old.config) (lawful' : IsConfig new.config) where
  goes : (c : Cell) → some_contains c.patterns p ≡ true → IsNumber old.config p c.first → IsNumber new.config p c.second → AreAlike old.config.routers new.config.routers → StayOrGoOver old.config new.config c
      → StaysOrGoesOver net p old new
  goes c contains one two alike (inl same) = inl (say_alike c.patterns c.first c.second net old.config new.config alike same p contains lawful lawful' one two)
  goes c contains one two alike (inr over) = inr (record {
    apart = are_apart net p old new c.first c.second lawful lawful' one two over.0;
    above = λ r u v path way t s q k taken taken'.
        over.1 q.1 k.1 (class_pref net old.config p c.first lawful one r u path t q taken) (class_pref net new.config p c.second lawful' two r v way s k taken');
  })

-- the cells of their classes
abbrev between : Part → Part → List Cell
between old new = cells old.config.classes new.config.classes

pub prefixes_stay_or_go_over : PrefixesStayOrGoOver
prefixes_stay_or_go_over net p old new lawful lawful' free prefix =
    let may = cells_serve old.config new.config lawful lawful' free in
    by may.alike (in_cell_of (between old new) old.config new.config p (cell_of (between old new) p) (class_of old.config p) (class_of new.config p) refl refl refl (may.pairs p prefix))
  where
    by : AreAlike old.config.routers new.config.routers → InCell (between old new) old.config new.config p → StaysOrGoesOver net p old new
    by alike (in_none none no_old no_new) = inl (none_alike net old new p no_old no_new)
    by alike (in_one c at one two) =
        let place = find_parts (λ (d : Cell). some_contains d.patterns p) (between old new) c at in
        goes net p old new lawful lawful' c place.2 one two alike
        (AllByRecursion_at (StayOrGoOver old.config new.config) (between old new) place.0 c (free_pairs_stay_or_go_over old.config new.config free) place.1)
