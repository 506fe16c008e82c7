-- Where nothing is in the way the stages make a rollout.
use Rattle.std.proofs.Common.{◌≡◌, ℕ, ◌+◌, ◌<◌, ◌≤◌, ◌^◌, Bool, true, false, List, [], ◌∷◌, ◌++◌, length, min, Option, Some, None, inl, inr, refl, sym, ap, ◌∙◌, subst, arith}
use Rattle.std.specs.Prelude.{nat_le, nat_lt, sum_by}
use Rattle.std.specs.List.{AllByRecursion, flat_map, fold}
use Rattle.std.proofs.lemmas.Bool.{leb-false, ltb-false}
use Rattle.std.proofs.lemmas.List.Sums.{sum_by-cons}
use Rattle.list_law.specs.Members.{IsIn}
use Rattle.list_law.proofs.Each.{AllByRecursion-from_list_any, AllByRecursion_at}
use Rattle.list_law.proofs.Members.{IsIn-filter, IsIn-nil}
use Rattle.net_base.specs.declared.numbers.Tag.{Tag}
use Rattle.config_base.specs.Configs.{PlainConfig, IsConfig}
use Rattle.class_lines.specs.declared.class_line.ClassLine.{ClassLine}
use Rattle.class_lines.specs.ClassLines.{all_lines, same_lines}
use Rattle.class_lines.specs.Marks.{is_low, least_of_prefs, least_of_tags, lesser_pref, lesser_tag, low_prefs, prefs_in, shared_tags}
use Rattle.class_lines.specs.Tables.{by_class}
use Rattle.stage_blocks.specs.Merging.{is_below}
use Rattle.stage_classes.specs.declared.cell.Cell.{Cell}
use Rattle.stage_classes.specs.Cells.{cells, turned}
use Rattle.stage_classes.proofs.Placing.{cells_are_pairs, cells_have_patterns}
use Rattle.stage_maker.specs.Alike.{AreAlike}
use Rattle.stage_maker.specs.Laws.{MayJoin}
use Rattle.stage_maker.proofs.Turning.{cells_turn}
use Rattle.stage_law.specs.Mixing.{MayMixIn}
use Rattle.stage_law.proofs.Mixed.{stages_make_a_rollout}
use Rattle.stage_check.specs.declared.judging.Verdict.{Verdict}
use Rattle.stage_check.specs.declared.judging.Verdict.TheVariants.{MayMix, Unlike, TooManyLines, SharedTag, LowPref}
use Rattle.stage_check.specs.declared.judging.TheConstants.{MAX_LINES}
use Rattle.stage_check.specs.Laws.{AreOver, CellsServe, FreePairsStayOrGoOver, StagesAreRollouts, StayOrGoOver, run_by}
use Rattle.stage_check.specs.Stages.{stage_of}
use Rattle.stage_check.specs.Unlike.{first_unlike}
use Rattle.stage_check.specs.Verdicts.{lines_of_cell, of_count, of_pref, of_tag, of_unlike, prefs_of_cell, stays, tag_or_pref, tags_of_cell, top, verdict}
use Rattle.stage_check.proofs.Alike.{alike_from}
use Rattle.stage_check.proofs.NoTags.{no_tag_in_common}
use Rattle.stage_check.proofs.SameBlocks.{say_same}

-- ---- what isn't in the way

unlike_none : (old new : PlainConfig) (o : Option ℕ) → of_unlike old new o ≡ MayMix → (o ≡ None) × (of_unlike old new None ≡ MayMix)
unlike_none old new None h = (refl, h)
unlike_none old new (Some n) h = absurd (let clash : Unlike n ≡ MayMix = h in cc)

module _ (old new : ℕ → List ClassLine) where
  few : (cs : List Cell) (n : ℕ) → of_count old new cs n ≡ MayMix → (n ≤ MAX_LINES) × (tag_or_pref old new cs ≡ MayMix)
  few cs n h = by (nat_lt MAX_LINES n) refl h
    where
      by : (b : Bool) → nat_lt MAX_LINES n ≡ b → of_count old new cs n ≡ MayMix → (n ≤ MAX_LINES) × (tag_or_pref old new cs ≡ MayMix)
      by true e m = absurd (let clash : TooManyLines n ≡ MayMix = rw e at m in cc)
      by false e m = (ltb-false MAX_LINES n e, rw e at m)

  tag_none : (cs : List Cell) (o : Option Tag) → of_tag old new cs o ≡ MayMix → o ≡ None
  tag_none cs None h = refl
  tag_none cs (Some t) h = absurd (let clash : SharedTag t ≡ MayMix = h in cc)

  pref_none : (o : Option ℕ) → of_pref o ≡ MayMix → o ≡ None
  pref_none None h = refl
  pref_none (Some n) h = absurd (let clash : LowPref n ≡ MayMix = h in cc)

  no_pref : (cs : List Cell) (o : Option Tag) → of_tag old new cs o ≡ MayMix → least_of_prefs (flat_map (prefs_of_cell old new) cs) ≡ None
  no_pref cs None h = pref_none (least_of_prefs (flat_map (prefs_of_cell old new) cs)) h
  no_pref cs (Some t) h = absurd (let clash : SharedTag t ≡ MayMix = h in cc)

  -- ---- each cell is counted

  counted : (c : Cell) → 1 ≤ lines_of_cell old new c
  counted c = by (stays old new c) refl
    where
      by : (b : Bool) → stays old new c ≡ b → 1 ≤ lines_of_cell old new c
      by true e = rw e (omega arith)
      by false e = rw e (omega arith)

  all_counted : (cs : List Cell) → length cs ≤ sum_by (lines_of_cell old new) cs
  all_counted [] = omega arith
  all_counted (c ∷ cs) =
      let one = counted c in
      let rest = all_counted cs in
      let is = sum_by-cons (lines_of_cell old new) c cs in
      omega (arith, one, rest, is)

-- ---- no tag

some_stays : (u : Tag) (ts : List Tag) → (v : Tag) × (fold lesser_tag (Some u) ts ≡ Some v)
some_stays u [] = (u, refl)
some_stays u (t ∷ ts) = by (is_below t u) refl (some_stays t ts) (some_stays u ts)
  where
    by : (b : Bool) → is_below t u ≡ b → ((v : Tag) × (fold lesser_tag (Some t) ts ≡ Some v)) → ((v : Tag) × (fold lesser_tag (Some u) ts ≡ Some v))
        → (v : Tag) × (fold lesser_tag (Some u) (t ∷ ts) ≡ Some v)
    by true e lesser other = (lesser.0, rw e lesser.1)
    by false e lesser other = (other.0, rw e other.1)

no_tags : (ts : List Tag) → least_of_tags ts ≡ None → ts ≡ []
no_tags [] h = refl
no_tags (t ∷ ts) h = absurd (let some = some_stays t ts in let clash : Some some.0 ≡ None = sym some.1 ∙ h in cc)

-- ---- no preference

some_is_left : (m : ℕ) (ns : List ℕ) → (k : ℕ) × (fold lesser_pref (Some m) ns ≡ Some k)
some_is_left m [] = (m, refl)
some_is_left m (n ∷ ns) = by (nat_lt n m) refl (some_is_left n ns) (some_is_left m ns)
  where
    by : (b : Bool) → nat_lt n m ≡ b → ((k : ℕ) × (fold lesser_pref (Some n) ns ≡ Some k)) → ((k : ℕ) × (fold lesser_pref (Some m) ns ≡ Some k))
        → (k : ℕ) × (fold lesser_pref (Some m) (n ∷ ns) ≡ Some k)
    by true e lesser other = (lesser.0, rw e lesser.1)
    by false e lesser other = (other.0, rw e other.1)

no_prefs : (ns : List ℕ) → least_of_prefs ns ≡ None → ns ≡ []
no_prefs [] h = refl
no_prefs (n ∷ ns) h = absurd (let some = some_is_left n ns in let clash : Some some.0 ≡ None = sym some.1 ∙ h in cc)

-- where none of the second lines is low, each is above
above : (old new : List ClassLine) → low_prefs old new ≡ [] → (i j : ℕ) → IsIn (prefs_in old) i → IsIn (prefs_in new) j → i < j
above old new none i j here there = by (is_low (prefs_in old) j) refl
  where
    by : (b : Bool) → is_low (prefs_in old) j ≡ b → i < j
    by true e = absurd (IsIn-nil j (subst (λ ns. IsIn ns j) none (IsIn-filter (is_low (prefs_in old)) (prefs_in new) j there e)))
    by false e =
        let all = AllByRecursion-from_list_any (nat_le j) (prefs_in old) e in
        leb-false j i (AllByRecursion_at (λ n. nat_le j n ≡ false) (prefs_in old) here.0 i all here.1)

module _ {A B : Type 0} (f : A → List B) where
  nothing_of : (xs : List A) → flat_map f xs ≡ [] → AllByRecursion (λ x. f x ≡ []) xs
  nothing_of [] h = tt
  nothing_of (x ∷ xs) h = by (f x) refl h (nothing_of xs)
    where
      by : (ys : List B) → f x ≡ ys → flat_map f (x ∷ xs) ≡ [] → (flat_map f xs ≡ [] → AllByRecursion (λ x. f x ≡ []) xs) → AllByRecursion (λ x. f x ≡ []) (x ∷ xs)
      by [] e none later = (e, later (rw e at none))
      by (y ∷ ys) e none later = absurd (let clash : y ∷ (ys ++ flat_map f xs) ≡ [] = rw e at none in cc)

-- ---- so each cell may be mixed

module _ (old new : PlainConfig) (alike : AreAlike old.routers new.routers) where
  cell_mixes : (c : Cell) → tags_of_cell (by_class old) (by_class new) c ≡ [] → MayMixIn old new c
  cell_mixes c none = by (stays (by_class old) (by_class new) c) refl none
    where
      by : (b : Bool) → stays (by_class old) (by_class new) c ≡ b → tags_of_cell (by_class old) (by_class new) c ≡ [] → MayMixIn old new c
      by true e h = inl (say_same c.patterns c.first c.second old.routers new.routers alike e)
      by false e h = inr (no_tag_in_common c.first c.second old new (rw e at h))

  cells_mix : (cs : List Cell) → AllByRecursion (λ c. tags_of_cell (by_class old) (by_class new) c ≡ []) cs → AllByRecursion (MayMixIn old new) cs
  cells_mix [] all = tt
  cells_mix (c ∷ cs) all = (cell_mixes c all.0, cells_mix cs all.1)

  cell_goes_over : (c : Cell) → tags_of_cell (by_class old) (by_class new) c ≡ [] → prefs_of_cell (by_class old) (by_class new) c ≡ [] → StayOrGoOver old new c
  cell_goes_over c none least = by (stays (by_class old) (by_class new) c) refl none least
    where
      by : (b : Bool) → stays (by_class old) (by_class new) c ≡ b → tags_of_cell (by_class old) (by_class new) c ≡ [] → prefs_of_cell (by_class old) (by_class new) c ≡ []
          → StayOrGoOver old new c
      by true e h l = inl (say_same c.patterns c.first c.second old.routers new.routers alike e)
      by false e h l = inr (no_tag_in_common c.first c.second old new (rw e at h), above (by_class old c.first) (by_class new c.second) (rw e at l))

  cells_go_over : (cs : List Cell) → AllByRecursion (λ c. tags_of_cell (by_class old) (by_class new) c ≡ []) cs
      → AllByRecursion (λ c. prefs_of_cell (by_class old) (by_class new) c ≡ []) cs → AllByRecursion (StayOrGoOver old new) cs
  cells_go_over [] all low = tt
  cells_go_over (c ∷ cs) all low = (cell_goes_over c all.0 low.0, cells_go_over cs all.1 low.1)

module _ (old new : PlainConfig) (free : verdict old new ≡ MayMix) where
  abbrev between : List Cell
  between = cells old.classes new.classes

  same : (first_unlike old.routers new.routers ≡ None) × (of_unlike old new None ≡ MayMix)
  unfolding verdict
  same = unlike_none old new (first_unlike old.routers new.routers) free

  alike : AreAlike old.routers new.routers
  alike = alike_from 1 old.routers new.routers same.0

  within : (min (sum_by (lines_of_cell (by_class old) (by_class new)) between) top ≤ MAX_LINES) × (tag_or_pref (by_class old) (by_class new) between ≡ MayMix)
  within = few (by_class old) (by_class new) between (min (sum_by (lines_of_cell (by_class old) (by_class new)) between) top) same.1

  apart : AllByRecursion (λ c. tags_of_cell (by_class old) (by_class new) c ≡ []) between
  apart =
      nothing_of (tags_of_cell (by_class old) (by_class new)) between
      (no_tags (flat_map (tags_of_cell (by_class old) (by_class new)) between)
      (tag_none (by_class old) (by_class new) between (least_of_tags (flat_map (tags_of_cell (by_class old) (by_class new)) between)) within.1))

  mix : AllByRecursion (MayMixIn old new) between
  mix = cells_mix old new alike between apart

  go_over : AllByRecursion (StayOrGoOver old new) between
  go_over =
      cells_go_over old new alike between apart
      (nothing_of (prefs_of_cell (by_class old) (by_class new)) between
      (no_prefs (flat_map (prefs_of_cell (by_class old) (by_class new)) between)
      (no_pref (by_class old) (by_class new) between (least_of_tags (flat_map (tags_of_cell (by_class old) (by_class new)) between)) within.1)))

  short : length between < 2 ^ 32
  short =
      let most : min (sum_by (lines_of_cell (by_class old) (by_class new)) between) 18446744073709551615 ≤ 1000000 = within.0 in
      omega (arith, all_counted (by_class old) (by_class new) between, most)

  serve : IsConfig old → IsConfig new → MayJoin between old new
  serve lawful lawful' = record {
    start_is = lawful;
    other_is = lawful';
    alike = alike;
    count = short;
    patterns = cells_have_patterns old.classes new.classes;
    pairs = cells_are_pairs old.classes new.classes;
  }

pub cells_serve : CellsServe
cells_serve old new lawful lawful' free = serve old new free lawful lawful'

pub free_pairs_stay_or_go_over : FreePairsStayOrGoOver
free_pairs_stay_or_go_over old new free = go_over old new free

pub stages_are_rollouts : StagesAreRollouts
unfolding stage_of
stages_are_rollouts old new lawful lawful' free net before after p prefix =
    let may = serve old new free lawful lawful' in
    stages_make_a_rollout net (between old new free) _ (run_by before old) (run_by after new) p may (cells_turn (between old new free) old new may) (mix old new free) prefix

-- the same of cells that are turned
pub turned_serve : (cells others : List Cell) (old new : PlainConfig) → others ≡ turned cells → MayJoin cells old new → MayJoin others new old
turned_serve cells others old new is may = subst (λ cs. MayJoin cs new old) (sym is) (cells_turn cells old new may)
