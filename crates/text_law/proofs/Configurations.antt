-- What a text spells is what it is the text of.
use Rattle.std.proofs.Common.{◌≡◌, ℕ, ◌+◌, ◌^◌, ◌<◌, List, [], ◌∷◌, ◌++◌, length, Bool, true, false, refl, sym, ap, ap₂, ◌∙◌, arith}
use Rattle.std.specs.Prelude.{◌≢◌, IsTrue, MatchBool, codes}
use Rattle.std.specs.List.{AllByRecursion, flat_map}
use Rattle.list_law.proofs.Changed.{flat_map_same}
use Rattle.list_law.proofs.Each.{AllByRecursion-both, AllByRecursion-weaker}
use Rattle.net_base.specs.Numbers.{is_router_as, is_peer_as, is_tag, no_tag}
use Rattle.net_base.specs.Prefixes.{PlainPattern, IsPattern}
use Rattle.net_base.specs.declared.numbers.Tag.{Tag}
use Rattle.config_base.specs.declared.config.RouterConfig.{RouterConfig}
use Rattle.config_base.specs.declared.config.Session.{Session}
use Rattle.config_base.specs.declared.config.Import.{Import}
use Rattle.config_base.specs.declared.config.Export.{Export}
use Rattle.config_base.specs.declared.config.Origination.{Origination}
use Rattle.config_base.specs.Configs.{PlainConfig}
use Rattle.config_base.specs.Configs as rule
use Rattle.config_lines.specs.declared.edition.Edition.TheVariants.{Second}
use Rattle.config_lines.specs.LineText.{import_text, read_tag}
use Rattle.config_lines.proofs.Ranges.{router_low, peer_low, tag_low}
use Rattle.config_lines.proofs.Tags.{IsShort}
use Rattle.config_text.specs.ConfigText.{class_line, class_lines as class_lines_in, import_line as import_line_in, session_line, session_text as session_text_in}
use Rattle.config_text.specs.ConfigText.{router_line, router_text as router_text_in, text_in}
use Rattle.config_text.specs.Spelled.{ArePatterns, HasPrefix, IsNamed, HasLawfulParts, Spells}
use Rattle.config_text.proofs.Classes.{IsFullClass}
use Rattle.config_text.proofs.Lines.{IsShortOrigination, IsShortImport, IsShortExport}
use Rattle.config_text.proofs.Blocks.{IsReadableSession, IsReadableRouter, IsReadable, config_cut}
use Rattle.text_law.specs.ConfigText.{class_lines, own_line, import_line, export_line, session_text, router_text, config_text, IsTag, IsOrigination, IsImport, IsExport}
use Rattle.text_law.specs.ConfigText.{IsSession, IsRouter, IsTextOf}

-- ---- the text of the second edition

same_classes : (k : ℕ) (cs : List (List PlainPattern)) → class_lines_in Second k cs ≡ class_lines k cs
same_classes k [] = refl
same_classes k (ps ∷ cs) = ap (λ (t : List ℕ). class_line Second k ps ++ t) (same_classes (k + 1) cs)

same_import : (peer : Bool) (r : Import) → import_line_in Second peer r ≡ import_line peer r
unfolding import_line_in import_text read_tag
same_import peer r = refl

same_session : (s : Session) → session_text_in Second s ≡ session_text s
same_session s =
    ap (λ (t : List ℕ). session_line s ++ t ++ flat_map export_line s.exports) (flat_map_same (import_line_in Second s.peer) (import_line s.peer) s.imports (λ r member. same_import s.peer r))

same_router : (r : RouterConfig) → router_text_in Second r ≡ router_text r
same_router r = ap (λ (t : List ℕ). router_line Second r ++ flat_map own_line r.own ++ t ++ codes "end\n") (flat_map_same (session_text_in Second) session_text r.sessions (λ s member. same_session s))

same_text : (c : PlainConfig) → text_in Second c ≡ config_text c
same_text c = ap₂ (λ (a b : List ℕ). codes "propane-config 2\n" ++ a ++ b) (same_classes 1 c.classes) (flat_map_same (router_text_in Second) router_text c.routers (λ r member. same_router r))

-- ---- what is lawful is written so

tag_is : (t : Tag) → IsTrue (is_tag t) → IsTag t
tag_is t is = let low = tag_low Second t is in (low.0, low.1)

read_tag_is : (peer : Bool) (t : Tag) → MatchBool peer (t ≡ no_tag) (IsTrue (is_tag t)) → MatchBool peer (t ≡ no_tag) (IsTag t)
read_tag_is true t h = h
read_tag_is false t h = tag_is t h

session_number : (peer : Bool) (n : ℕ) → MatchBool peer (IsTrue (is_peer_as n)) (IsTrue (is_router_as n)) → n < 2 ^ 32
session_number true n h = peer_low Second n h
session_number false n h = router_low Second n h

module _ (count : ℕ) (low : count < 2 ^ 32) where
  origination_is : (o : Origination) → rule.IsOrigination count o → HasPrefix o → IsOrigination o
  origination_is o is prefix = (omega (arith, low, is.0.1), prefix, tag_is o.tag is.1)

  import_is : (s : Session) (r : Import) → rule.IsImport count s r → IsImport s.peer r
  import_is s r is = (omega (arith, low, is.0.1), read_tag_is s.peer r.tag is.1, tag_is r.set is.2, is.3)

  export_is : (e : Export) → rule.IsExport count e → IsExport e
  export_is e is = (omega (arith, low, is.0.1), tag_is e.tag is.1)

  session_is : (s : Session) → rule.IsSession count s → IsNamed s → IsSession s
  session_is s is named = (
    named,
    session_number s.peer s.asn is.number,
    AllByRecursion-weaker (rule.IsImport count s) (IsImport s.peer) s.imports (import_is s) is.imports,
    AllByRecursion-weaker (rule.IsExport count) IsExport s.exports export_is is.exports,
  )

  router_is : (r : RouterConfig) → rule.IsRouter count r → HasLawfulParts r → IsRouter r
  router_is r is parts = (
    parts.name,
    router_low Second r.asn is.number,
    is.identifier.1,
    AllByRecursion-both (rule.IsOrigination count) HasPrefix IsOrigination origination_is r.own is.own parts.prefixes,
    AllByRecursion-both (rule.IsSession count) IsNamed IsSession session_is r.sessions is.sessions parts.names,
  )

-- a class that has patterns, all of them lawful
abbrev IsClass : List PlainPattern → Type 0
IsClass ps = (ps ≢ []) × AllByRecursion IsPattern ps

pub spellings_are_texts : (bytes : List ℕ) (c : PlainConfig) → Spells bytes c → IsTextOf bytes c
spellings_are_texts bytes c spells =
    let is = spells.lawful in
    record {
      written = spells.written ∙ same_text c;
      classes = AllByRecursion-both (λ (ps : List PlainPattern). ps ≢ []) ArePatterns IsClass (λ ps some all. (some, all)) c.classes is.rules.patterns is.patterns;
      routers = AllByRecursion-both (rule.IsRouter (length c.classes)) HasLawfulParts IsRouter (router_is (length c.classes) is.rules.count) c.routers is.rules.routers is.routers;
    }

-- ---- what is written so is read in one way only

short_tag : (t : Tag) → IsTag t → IsShort t
short_tag t is = record { asn = is.0; value = is.1 }

short_read_tag : (peer : Bool) (t : Tag) → MatchBool peer (t ≡ no_tag) (IsTag t) → MatchBool peer (t ≡ no_tag) (IsShort t)
short_read_tag true t h = h
short_read_tag false t h = short_tag t h

short_origination : (o : Origination) → IsOrigination o → IsShortOrigination o
short_origination o is = record { class = is.0; prefix = is.1; tag = short_tag o.tag is.2 }

short_import : (peer : Bool) (r : Import) → IsImport peer r → IsShortImport peer r
short_import peer r is = record { class = is.0; tag = short_read_tag peer r.tag is.1; set = short_tag r.set is.2; pref = is.3 }

short_export : (e : Export) → IsExport e → IsShortExport e
short_export e is = record { class = is.0; tag = short_tag e.tag is.1 }

readable_session : (s : Session) → IsSession s → IsReadableSession s
readable_session s is = record {
  name = is.0;
  asn = is.1;
  imports = AllByRecursion-weaker (IsImport s.peer) (IsShortImport s.peer) s.imports (short_import s.peer) is.2;
  exports = AllByRecursion-weaker IsExport IsShortExport s.exports short_export is.3;
}

readable_router : (r : RouterConfig) → IsRouter r → IsReadableRouter r
readable_router r is = record {
  name = is.0;
  asn = is.1;
  id = is.2;
  own = AllByRecursion-weaker IsOrigination IsShortOrigination r.own short_origination is.3;
  sessions = AllByRecursion-weaker IsSession IsReadableSession r.sessions readable_session is.4;
}

readable_text : (bytes : List ℕ) (c : PlainConfig) → IsTextOf bytes c → IsReadable c
readable_text bytes c is = record {
  classes = AllByRecursion-weaker IsClass IsFullClass c.classes (λ ps full. record { some = full.0; all = full.1 }) is.classes;
  routers = AllByRecursion-weaker IsRouter IsReadableRouter c.routers readable_router is.routers;
}

pub texts_are_of_one : (bytes : List ℕ) (c d : PlainConfig) → IsTextOf bytes c → IsTextOf bytes d → c ≡ d
texts_are_of_one bytes c d one other =
    config_cut Second c d (readable_text bytes c one) (readable_text bytes d other) (same_text c ∙ sym one.written ∙ other.written ∙ sym (same_text d))
