-- Each line of a lawful configuration is one of the second edition.
use Rattle.std.proofs.Common.{◌≡◌, ℕ, ◌+◌, ◌≤◌, ◌^◌, List, [], ◌∷◌, length, map, Bool, true, false, refl, arith}
use Rattle.std.specs.Prelude.{◌≢◌, IsTrue, MatchBool, if◌then◌else◌}
use Rattle.std.specs.List.{flat_map, AllByRecursion}
use Rattle.list_law.proofs.Each.{AllByRecursion-append, AllByRecursion-map, AllByRecursion-weaker, AllByRecursion-both}
use Rattle.net_base.specs.Numbers.{no_tag, is_tag, is_peer_as, is_router_as}
use Rattle.net_base.specs.Prefixes.{PlainPattern}
use Rattle.config_base.specs.declared.config.RouterConfig.{RouterConfig}
use Rattle.config_base.specs.declared.config.Session.{Session}
use Rattle.config_base.specs.declared.config.Import.{Import}
use Rattle.config_base.specs.declared.config.Origination.{Origination}
use Rattle.config_base.specs.Configs.{PlainConfig, IsImport, IsOrigination, IsSession, IsRouter}
use Rattle.config_lines.specs.declared.edition.Edition.TheVariants.{Second}
use Rattle.config_lines.specs.declared.line.Line.{Line}
use Rattle.config_lines.specs.declared.line.Line.TheVariants as line
use Rattle.config_lines.specs.LineText.{IsLine}
use Rattle.config_text.specs.ConfigLines.{lines_of_classes, head_of, import_of, lines_of_session, lines_before_end, lines_of_router}
use Rattle.config_text.specs.ConfigText.{config_text}
use Rattle.config_text.specs.Spelled.{ArePatterns, HasPrefix, IsNamed, HasLawfulParts, IsLawful, HasLinesOf, Spells}

import_line : (count : ℕ) (s : Session) (r : Import) → IsImport count s r → IsLine Second count (import_of s.peer r)
import_line count s r is = by s.peer is.1
  where
    by : (b : Bool) → MatchBool b (r.tag ≡ no_tag) (IsTrue (is_tag r.tag)) → IsLine Second count (import_of b r)
    by true t = (t, (is.0, is.2, is.3))
    by false t = (t, (is.0, is.2, is.3))

head_line : (count : ℕ) (s : Session) → IsSession count s → IsNamed s → IsLine Second count (head_of s)
head_line count s is named = by s.peer is.number
  where
    by : (b : Bool) → MatchBool b (IsTrue (is_peer_as s.asn)) (IsTrue (is_router_as s.asn)) → IsLine Second count (if b then line.Peer s.name s.asn else line.Session s.name s.asn)
    by true n = (named, n)
    by false n = (named, n)

session_lines : (count : ℕ) (s : Session) → IsSession count s → IsNamed s → AllByRecursion (IsLine Second count) (lines_of_session s)
session_lines count s is named = (
  head_line count s is named,
  AllByRecursion-append (IsLine Second count) (map (import_of s.peer) s.imports) (map line.Export s.exports)
      (AllByRecursion-map (import_of s.peer) (IsLine Second count) s.imports (AllByRecursion-weaker (IsImport count s)
      (λ (r : Import). IsLine Second count (import_of s.peer r)) s.imports (import_line count s) is.imports))
      (AllByRecursion-map line.Export (IsLine Second count) s.exports is.exports),
)

-- what each list has that is put together
pub flat_all : {A : Type 0} (P : Line → Type 0) (f : A → List Line) (xs : List A) → AllByRecursion (λ (x : A). AllByRecursion P (f x)) xs → AllByRecursion P (flat_map f xs)
flat_all P f [] all = tt
flat_all P f (x ∷ xs) all = AllByRecursion-append P (f x) (flat_map f xs) all.0 (flat_all P f xs all.1)

router_lines : (count : ℕ) (r : RouterConfig) → IsRouter count r → HasLawfulParts r → AllByRecursion (IsLine Second count) (lines_of_router r)
router_lines count r is parts =
    AllByRecursion-append (IsLine Second count) (lines_before_end r) (line.End ∷ []) (
      (parts.name, is.number, is.identifier.0, is.identifier.1),
      AllByRecursion-append (IsLine Second count) (map line.Origination r.own) (flat_map lines_of_session r.sessions)
          (AllByRecursion-map line.Origination (IsLine Second count) r.own (AllByRecursion-both (IsOrigination count) HasPrefix
          (λ (o : Origination). IsLine Second count (line.Origination o)) (λ o k p. (k, p)) r.own is.own parts.prefixes))
          (flat_all (IsLine Second count) lines_of_session r.sessions (AllByRecursion-both (IsSession count) IsNamed
          (λ (s : Session). AllByRecursion (IsLine Second count) (lines_of_session s)) (session_lines count) r.sessions is.sessions
          parts.names)),
    )
    (tt, tt)

class_lines : (count n : ℕ) (cs : List (List PlainPattern)) → n + length cs ≤ 2 ^ 32 → AllByRecursion (λ (ps : List PlainPattern). ps ≢ []) cs
    → AllByRecursion ArePatterns cs → AllByRecursion (IsLine Second count) (lines_of_classes n cs)
class_lines count n [] few some are = tt
class_lines count n (c ∷ cs) few some are = ((omega (arith, few), some.0, are.0), class_lines count (n + 1) cs (omega (arith, few)) some.1 are.1)

pub lawful_lines : (c : PlainConfig) → IsLawful c → HasLinesOf Second c
lawful_lines c is =
    let count : ℕ = length c.classes in
    AllByRecursion-append (IsLine Second count) (lines_of_classes 1 c.classes) (flat_map lines_of_router c.routers)
    (class_lines count 1 c.classes (omega (arith, is.rules.count)) is.rules.patterns is.patterns)
    (flat_all (IsLine Second count) lines_of_router c.routers (AllByRecursion-both (IsRouter count) HasLawfulParts
    (λ (r : RouterConfig). AllByRecursion (IsLine Second count) (lines_of_router r)) (router_lines count) c.routers is.rules.routers
    is.routers))

pub lawful_text : (c : PlainConfig) → IsLawful c → Spells (config_text c) c
lawful_text c is = record { lawful = is; fits = lawful_lines c is; written = refl }
