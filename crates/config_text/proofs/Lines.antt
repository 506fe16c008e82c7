-- Each line of a router's block at the front of a text is read in one way only.
use Rattle.std.proofs.Common.{◌≡◌, ℕ, ◌^◌, ◌<◌, List, [], ◌∷◌, ◌++◌, Bool, true, false, refl, sym, ◌∙◌, arith, append_assoc}
use Rattle.std.specs.Prelude.{◌&&◌, ◌==◌, MatchBool, codes}
use Rattle.std.specs.List.{flat_map, AllByRecursion}
use Rattle.std.specs.Fmt.{decimal}
use Rattle.std.proofs.lemmas.List.{append_cancel_left}
use Rattle.net_base.specs.declared.numbers.Tag.{Tag}
use Rattle.net_base.specs.Addresses.{is_figure}
use Rattle.net_base.specs.Numbers.{no_tag}
use Rattle.net_base.specs.Prefixes.{PlainPrefix, IsPrefix}
use Rattle.text_parts.specs.Texts.{prefix_text}
use Rattle.config_base.specs.declared.config.Import.{Import}
use Rattle.config_base.specs.declared.config.Export.{Export}
use Rattle.config_base.specs.declared.config.Origination.{Origination}
use Rattle.config_text.specs.ConfigText.{own_line, import_line, export_line}
use Rattle.text_parts.specs.Ends.{stops}
use Rattle.config_lines.specs.declared.edition.Edition.{Edition}
use Rattle.config_lines.specs.Editions.{tag_text}
use Rattle.config_lines.specs.LineText.{read_tag, set_text, import_text}
use Rattle.config_lines.proofs.Tags.{IsShort, tag_cut}
use Rattle.text_parts.proofs.Words.{number_cut, after}
use Rattle.text_parts.proofs.Pieces.{prefix_cut}
use Rattle.config_text.proofs.Repeats.{list_cut, begins, any_text}

-- ---- originate lines

pub record IsShortOrigination (o : Origination) : Type 0 where
  pub class : o.class < 2 ^ 32
  pub prefix : IsPrefix o.prefix
  pub tag : IsShort o.tag

own_parts : (edition : Edition) (o : Origination) (rest : List ℕ) → own_line edition o ++ rest
    ≡ codes "originate " ++ (decimal o.class ++ (32 ∷ (prefix_text o.prefix ++ (codes " tag " ++ (tag_text edition o.tag ++ (10 ∷ rest))))))
own_parts edition o rest = parts_by (decimal o.class) (prefix_text o.prefix) (tag_text edition o.tag)
  where
    parts_by : (a b c : List ℕ) → (codes "originate " ++ a ++ codes " " ++ b ++ codes " tag " ++ c ++ codes "\n") ++ rest
        ≡ codes "originate " ++ (a ++ (32 ∷ (b ++ (codes " tag " ++ (c ++ (10 ∷ rest))))))
    parts_by a b c = simp append_assoc refl

abbrev own_of : ℕ → PlainPrefix → Tag → Origination
own_of class prefix tag = record { class = class; prefix = prefix; tag = tag }

same_origination : (o q : Origination) → o.class ≡ q.class → o.prefix ≡ q.prefix → o.tag ≡ q.tag → o ≡ q
same_origination o q i j k = let e : own_of o.class o.prefix o.tag ≡ own_of q.class q.prefix q.tag = cc in e

one_own : (edition : Edition) (o q : Origination) (rest more : List ℕ) → IsShortOrigination o → IsShortOrigination q → any_text rest ≡ true → any_text more ≡ true
    → own_line edition o ++ rest ≡ own_line edition q ++ more → (o ≡ q) × (rest ≡ more)
one_own edition o q rest more ho hq hr hm e =
    let parts = sym (own_parts edition o rest) ∙ e ∙ own_parts edition q more in
    let a = number_cut o.class q.class _ _ (omega (arith, ho.class)) (omega (arith, hq.class)) refl refl (append_cancel_left (codes "originate ") _ _ parts) in
    let b = prefix_cut o.prefix q.prefix _ _ ho.prefix hq.prefix refl refl (after 32 _ _ a.1) in
    let c = tag_cut edition o.tag q.tag _ _ ho.tag hq.tag refl refl (append_cancel_left (codes " tag ") _ _ b.1) in
    (same_origination o q a.0 b.0 c.0, after 10 rest more c.1)

pub owns_cut : (edition : Edition) (os qs : List Origination) (rest more : List ℕ) → AllByRecursion IsShortOrigination os → AllByRecursion IsShortOrigination qs
    → begins 111 rest ≡ false → begins 111 more ≡ false → flat_map (own_line edition) os ++ rest ≡ flat_map (own_line edition) qs ++ more → (os ≡ qs) × (rest ≡ more)
owns_cut edition os qs rest more ho hq sr sm e =
    list_cut Origination (own_line edition) IsShortOrigination (begins 111) any_text (λ o t. refl) (λ o t. refl) (one_own edition) os qs rest more ho hq sr sm refl refl e

-- ---- import lines

-- in the block of a peer a line's own tag is none
pub record IsShortImport (peer : Bool) (r : Import) : Type 0 where
  pub class : r.class < 2 ^ 32
  pub tag : MatchBool peer (r.tag ≡ no_tag) (IsShort r.tag)
  pub set : IsShort r.set
  pub pref : r.pref < 2 ^ 32

set_parts : (edition : Edition) (r : Import) (rest : List ℕ) → set_text edition r ++ rest ≡ codes " set " ++ (tag_text edition r.set ++ (codes " pref " ++ (decimal r.pref ++ rest)))
set_parts edition r rest = parts_by (tag_text edition r.set) (decimal r.pref)
  where
    parts_by : (a b : List ℕ) → (codes " set " ++ a ++ codes " pref " ++ b) ++ rest ≡ codes " set " ++ (a ++ (codes " pref " ++ (b ++ rest)))
    parts_by a b = simp append_assoc refl

set_cut : (edition : Edition) (r q : Import) (rest more : List ℕ) → IsShort r.set → IsShort q.set → r.pref < 2 ^ 32 → q.pref < 2 ^ 32
    → set_text edition r ++ 10 ∷ rest ≡ set_text edition q ++ 10 ∷ more
    → (r.set ≡ q.set) × (r.pref ≡ q.pref) × (rest ≡ more)
set_cut edition r q rest more hr hq lr lq e =
    let parts = sym (set_parts edition r (10 ∷ rest)) ∙ e ∙ set_parts edition q (10 ∷ more) in
    let a = tag_cut edition r.set q.set _ _ hr hq refl refl (append_cancel_left (codes " set ") _ _ parts) in
    let b = number_cut r.pref q.pref (10 ∷ rest) (10 ∷ more) (omega (arith, lr)) (omega (arith, lq)) refl refl (append_cancel_left (codes " pref ") _ _ a.1) in
    (a.0, b.0, after 10 rest more b.1)

-- what follows the class is no digit
read_stops : (edition : Edition) (peer : Bool) (t : Tag) (rest : List ℕ) → stops is_figure rest ≡ true → stops is_figure (read_tag edition peer t ++ rest) ≡ true
unfolding read_tag
read_stops edition true t rest h = h
read_stops edition false t rest h = refl

read_cut : (edition : Edition) (peer : Bool) (t u : Tag) (rest more : List ℕ) → MatchBool peer (t ≡ no_tag) (IsShort t) → MatchBool peer (u ≡ no_tag) (IsShort u)
    → stops is_figure rest ≡ true → stops is_figure more ≡ true → read_tag edition peer t ++ rest ≡ read_tag edition peer u ++ more → (t ≡ u) × (rest ≡ more)
unfolding read_tag
read_cut edition true t u rest more ht hu hr hm e = (ht ∙ sym hu, e)
read_cut edition false t u rest more ht hu hr hm e =
    let parts : codes " tag " ++ (tag_text edition t ++ rest) ≡ codes " tag " ++ (tag_text edition u ++ more) =
    sym (append_assoc (codes " tag ") (tag_text edition t) rest) ∙ e ∙ append_assoc (codes " tag ") (tag_text edition u) more in
    tag_cut edition t u rest more ht hu hr hm (append_cancel_left (codes " tag ") _ _ parts)

import_parts : (edition : Edition) (peer : Bool) (r : Import) (rest : List ℕ) → import_line edition peer r ++ rest
    ≡ codes "import " ++ (decimal r.class ++ (read_tag edition peer r.tag ++ (set_text edition r ++ (10 ∷ rest))))
unfolding import_line import_text
import_parts edition peer r rest = parts_by (decimal r.class) (read_tag edition peer r.tag) (set_text edition r)
  where
    parts_by : (a b c : List ℕ) → (codes "import " ++ a ++ b ++ c ++ codes "\n") ++ rest ≡ codes "import " ++ (a ++ (b ++ (c ++ (10 ∷ rest))))
    parts_by a b c = simp append_assoc refl

abbrev import_of_parts : ℕ → Tag → Tag → ℕ → Import
import_of_parts class tag set pref = record { class = class; tag = tag; set = set; pref = pref }

same_import : (r q : Import) → r.class ≡ q.class → r.tag ≡ q.tag → r.set ≡ q.set → r.pref ≡ q.pref → r ≡ q
same_import r q i j k l = let e : import_of_parts r.class r.tag r.set r.pref ≡ import_of_parts q.class q.tag q.set q.pref = cc in e

one_import : (edition : Edition) (peer : Bool) (r q : Import) (rest more : List ℕ) → IsShortImport peer r → IsShortImport peer q → any_text rest ≡ true → any_text more ≡ true
    → import_line edition peer r ++ rest ≡ import_line edition peer q ++ more → (r ≡ q) × (rest ≡ more)
one_import edition peer r q rest more hr hq tr tm e =
    let parts = sym (import_parts edition peer r rest) ∙ e ∙ import_parts edition peer q more in
    let a = number_cut r.class q.class _ _ (omega (arith, hr.class)) (omega (arith, hq.class)) (read_stops edition peer r.tag _ refl)
    (read_stops edition peer q.tag _ refl) (append_cancel_left (codes "import ") _ _ parts) in
    let b = read_cut edition peer r.tag q.tag _ _ hr.tag hq.tag refl refl a.1 in
    let c = set_cut edition r q rest more hr.set hq.set hr.pref hq.pref b.1 in
    (same_import r q a.0 b.0 c.0 c.1, c.2)

import_begins : (edition : Edition) (peer : Bool) (r : Import) (rest : List ℕ) → begins 105 (import_line edition peer r ++ rest) ≡ true
unfolding import_line import_text
import_begins edition peer r rest = refl

pub imports_cut : (edition : Edition) (peer : Bool) (rs qs : List Import) (rest more : List ℕ) → AllByRecursion (IsShortImport peer) rs → AllByRecursion (IsShortImport peer) qs
    → begins 105 rest ≡ false → begins 105 more ≡ false → flat_map (import_line edition peer) rs ++ rest ≡ flat_map (import_line edition peer) qs ++ more → (rs ≡ qs) × (rest ≡ more)
imports_cut edition peer rs qs rest more hr hq sr sm e =
    list_cut Import (import_line edition peer) (IsShortImport peer) (begins 105) any_text (import_begins edition peer) (λ r t. refl) (one_import edition peer) rs qs rest more hr hq sr sm refl refl e

-- ---- export lines

pub record IsShortExport (x : Export) : Type 0 where
  pub class : x.class < 2 ^ 32
  pub tag : IsShort x.tag

-- `ex`: the line `end` begins with an `e` too
abbrev pub begins_export : List ℕ → Bool
begins_export [] = false
begins_export (b ∷ bs) = b == 101 && begins 120 bs

export_parts : (edition : Edition) (x : Export) (rest : List ℕ) → export_line edition x ++ rest ≡ codes "export " ++ (decimal x.class ++ (codes " tag " ++ (tag_text edition x.tag ++ (10 ∷ rest))))
export_parts edition x rest = parts_by (decimal x.class) (tag_text edition x.tag)
  where
    parts_by : (a b : List ℕ) → (codes "export " ++ a ++ codes " tag " ++ b ++ codes "\n") ++ rest ≡ codes "export " ++ (a ++ (codes " tag " ++ (b ++ (10 ∷ rest))))
    parts_by a b = simp append_assoc refl

abbrev export_of : ℕ → Tag → Export
export_of class tag = record { class = class; tag = tag }

same_export : (x y : Export) → x.class ≡ y.class → x.tag ≡ y.tag → x ≡ y
same_export x y i j = let e : export_of x.class x.tag ≡ export_of y.class y.tag = cc in e

one_export : (edition : Edition) (x y : Export) (rest more : List ℕ) → IsShortExport x → IsShortExport y → any_text rest ≡ true → any_text more ≡ true
    → export_line edition x ++ rest ≡ export_line edition y ++ more → (x ≡ y) × (rest ≡ more)
one_export edition x y rest more hx hy tr tm e =
    let parts = sym (export_parts edition x rest) ∙ e ∙ export_parts edition y more in
    let a = number_cut x.class y.class _ _ (omega (arith, hx.class)) (omega (arith, hy.class)) refl refl (append_cancel_left (codes "export ") _ _ parts) in
    let b = tag_cut edition x.tag y.tag _ _ hx.tag hy.tag refl refl (append_cancel_left (codes " tag ") _ _ a.1) in
    (same_export x y a.0 b.0, after 10 rest more b.1)

pub exports_cut : (edition : Edition) (xs ys : List Export) (rest more : List ℕ) → AllByRecursion IsShortExport xs → AllByRecursion IsShortExport ys
    → begins_export rest ≡ false → begins_export more ≡ false → flat_map (export_line edition) xs ++ rest ≡ flat_map (export_line edition) ys ++ more → (xs ≡ ys) × (rest ≡ more)
exports_cut edition xs ys rest more hx hy sr sm e =
    list_cut Export (export_line edition) IsShortExport begins_export any_text (λ x t. refl) (λ x t. refl) (one_export edition) xs ys rest more hx hy sr sm refl refl e
