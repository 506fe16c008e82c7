-- A lawful configuration's numbers are short, so its text is read in one way only.
use Rattle.std.proofs.Common.{◌≡◌, ℕ, ◌^◌, ◌<◌, List, [], length, Bool, true, false, sym, ◌∙◌, arith}
use Rattle.std.specs.Prelude.{◌≢◌, IsTrue, MatchBool}
use Rattle.list_law.proofs.Each.{AllByRecursion-both, AllByRecursion-weaker}
use Rattle.net_base.specs.declared.numbers.Tag.{Tag}
use Rattle.net_base.specs.Numbers.{is_router_as, is_peer_as, is_tag, no_tag}
use Rattle.net_base.specs.Prefixes.{PlainPattern}
use Rattle.config_base.specs.declared.config.RouterConfig.{RouterConfig}
use Rattle.config_base.specs.declared.config.Session.{Session}
use Rattle.config_base.specs.declared.config.Import.{Import}
use Rattle.config_base.specs.declared.config.Export.{Export}
use Rattle.config_base.specs.declared.config.Origination.{Origination}
use Rattle.config_base.specs.Configs.{PlainConfig, IsImport, IsExport, IsOrigination, IsSession, IsRouter}
use Rattle.config_lines.specs.declared.edition.Edition.{Edition}
use Rattle.config_lines.specs.declared.edition.Edition.TheVariants.{Second}
use Rattle.config_lines.proofs.Ranges.{router_low, peer_low, tag_low}
use Rattle.config_lines.proofs.Tags.{IsShort}
use Rattle.config_text.specs.Spelled.{ArePatterns, HasPrefix, IsNamed, HasLawfulParts, IsLawful, SpellsIn}
use Rattle.config_text.proofs.Classes.{IsFullClass}
use Rattle.config_text.proofs.Lines.{IsShortOrigination, IsShortImport, IsShortExport}
use Rattle.config_text.proofs.Blocks.{IsReadableSession, IsReadableRouter, IsReadable, config_cut}

short_tag : (t : Tag) → IsTrue (is_tag t) → IsShort t
short_tag t is = let low = tag_low Second t is in record { asn = low.0; value = low.1 }

module _ (count : ℕ) (low : count < 2 ^ 32) where
  short_origination : (o : Origination) → IsOrigination count o → HasPrefix o → IsShortOrigination o
  short_origination o is prefix = record { class = omega (arith, low, is.0.1); prefix = prefix; tag = short_tag o.tag is.1 }

  read_tag_short : (peer : Bool) (t : Tag) → MatchBool peer (t ≡ no_tag) (IsTrue (is_tag t)) → MatchBool peer (t ≡ no_tag) (IsShort t)
  read_tag_short true t h = h
  read_tag_short false t h = short_tag t h

  short_import : (s : Session) (r : Import) → IsImport count s r → IsShortImport s.peer r
  short_import s r is = record { class = omega (arith, low, is.0.1); tag = read_tag_short s.peer r.tag is.1; set = short_tag r.set is.2; pref = is.3 }

  short_export : (e : Export) → IsExport count e → IsShortExport e
  short_export e is = record { class = omega (arith, low, is.0.1); tag = short_tag e.tag is.1 }

  session_number : (peer : Bool) (n : ℕ) → MatchBool peer (IsTrue (is_peer_as n)) (IsTrue (is_router_as n)) → n < 2 ^ 32
  session_number true n h = peer_low Second n h
  session_number false n h = router_low Second n h

  readable_session : (s : Session) → IsSession count s → IsNamed s → IsReadableSession s
  readable_session s is named = record {
    name = named;
    asn = session_number s.peer s.asn is.number;
    imports = AllByRecursion-weaker (IsImport count s) (IsShortImport s.peer) s.imports (short_import s) is.imports;
    exports = AllByRecursion-weaker (IsExport count) IsShortExport s.exports short_export is.exports;
  }

  readable_router : (r : RouterConfig) → IsRouter count r → HasLawfulParts r → IsReadableRouter r
  readable_router r is parts = record {
    name = parts.name;
    asn = router_low Second r.asn is.number;
    id = is.identifier.1;
    own = AllByRecursion-both (IsOrigination count) HasPrefix IsShortOrigination short_origination r.own is.own parts.prefixes;
    sessions = AllByRecursion-both (IsSession count) IsNamed IsReadableSession readable_session r.sessions is.sessions parts.names;
  }

full_class : (ts : List PlainPattern) → ts ≢ [] → ArePatterns ts → IsFullClass ts
full_class ts some all = record { some = some; all = all }

readable : (c : PlainConfig) → IsLawful c → IsReadable c
readable c is = record {
  classes = AllByRecursion-both (λ (ts : List PlainPattern). ts ≢ []) ArePatterns IsFullClass full_class c.classes is.rules.patterns is.patterns;
  routers = AllByRecursion-both (IsRouter (length c.classes)) HasLawfulParts IsReadableRouter (readable_router (length c.classes) is.rules.count) c.routers is.rules.routers is.routers;
}

-- a text is that of one configuration only
pub one_configuration : (edition : Edition) (bytes : List ℕ) (c d : PlainConfig) → SpellsIn edition bytes c → SpellsIn edition bytes d → c ≡ d
one_configuration edition bytes c d hc hd = config_cut edition c d (readable c hc.lawful) (readable d hd.lawful) (sym hc.written ∙ hd.written)
