-- What is told where no rule is broken and no limit is passed.
use Rattle.std.proofs.Common.{◌≡◌, ℕ, ◌≤◌, Bool, true, false, List, Option, Some, None, Result, Ok, Err, refl, arith, leb-true, le-leb}
use Rattle.std.specs.Prelude.{⊤}
use Rattle.net_base.specs.declared.loc.LocSet.{LocSet}
use Rattle.net_base.specs.declared.place.Place.{Place}
use Rattle.policy_tokens.specs.declared.kind.Kind.{Kind}
use Rattle.policy_tokens.specs.declared.kind.Kind.TheVariants as kind
use Rattle.net_base.specs.Prefixes.{PlainPrefix}
use Rattle.net_base.proofs.StepLemmas.{bind_ok, unless_ok}
use Rattle.policy_tokens.specs.declared.fault.PolicyFault.{PolicyFault}
use Rattle.policy_tokens.specs.declared.fault.PolicyFault.TheVariants.{TooMany, Twice}
use Rattle.policy_grammar.specs.declared.lexeme.Lexeme.{Lexeme}
use Rattle.policy_rules.specs.Checks.{text}
use Rattle.policy_rules.specs.Counts.{within}
use Rattle.policy_rules.specs.KeptNames.{kept_set}
use Rattle.policy_rules.specs.KnownNames.{Names, is_known, first_place, with_group}
use Rattle.policy_parser.specs.declared.values.ItemRead.{ItemRead}
use Rattle.policy_parser.specs.declared.values.ItemRead.TheVariants as read
use Rattle.policy_parser.specs.declared.values.OriginRead.{OriginRead}
use Rattle.policy_parser.specs.declared.values.StatementRead.{StatementRead}
use Rattle.policy_parser.specs.Spelled.{none_at}
use Rattle.policy_parser.specs.Told.{PlainOnce, PlainTold, first_told, with_prefix, with_members, with_origins, with_state, with_known_item, limits_fault, first_fault}
use Rattle.policy_parser.proofs.Steps.{none_at_ok}

-- no rule is broken and no limit is passed
pub record IsWhole (t : PlainTold) : Type 0 where
  pub names : t.names ≡ Ok tt
  pub twice : t.known.twice ≡ None
  pub figures : t.rules.figures ≡ Ok tt
  pub ranks : t.rules.ranks ≡ Ok tt
  pub routers : t.rules.routers ≡ Ok tt
  pub once : t.once.fault ≡ Ok tt
  pub definitions : t.amounts.definitions ≤ 256
  pub statements : t.amounts.statements ≤ 256
  pub patterns : t.amounts.patterns ≤ 16384
  pub prefixes : t.amounts.prefixes ≤ 4096
  pub pairs : t.amounts.pairs ≤ 16384
  pub calls : t.rules.calls ≡ Ok tt
  pub places : t.rules.places ≡ Ok tt

pub most_of : (k : Kind) (most n : ℕ) (u : ⊤) → within k most n ≡ Ok u → n ≤ most
most_of k most n u h = leb-true n most (unless_ok (TooMany k n) _ u h)

pub within_of : (k : Kind) (most n : ℕ) → n ≤ most → within k most n ≡ Ok tt
within_of k most n h = rw (le-leb n most h) refl

pub whole : (t : PlainTold) → first_fault t ≡ Ok tt → IsWhole t
unfolding first_fault
whole t h =
    let names = bind_ok t.names _ tt h in
    let twice = bind_ok (none_at Twice t.known.twice) _ tt names.2 in
    let figures = bind_ok t.rules.figures _ tt twice.2 in
    let ranks = bind_ok t.rules.ranks _ tt figures.2 in
    let routers = bind_ok t.rules.routers _ tt ranks.2 in
    let once = bind_ok t.once.fault _ tt routers.2 in
    let limits = bind_ok (limits_fault t.amounts) _ tt once.2 in
    let definitions = bind_ok (within kind.Definitions 256 t.amounts.definitions) _ limits.0 limits.1 in
    let statements = bind_ok (within kind.Statements 256 t.amounts.statements) _ limits.0 definitions.2 in
    let patterns = bind_ok (within kind.Patterns 16384 t.amounts.patterns) _ limits.0 statements.2 in
    let pairs = bind_ok (within kind.Origins 16384 t.amounts.pairs) _ tt limits.2 in
    let calls = bind_ok t.rules.calls _ tt pairs.2 in
    record {
      names = names.1;
      twice = none_at_ok Twice t.known.twice twice.0 twice.1;
      figures = figures.1;
      ranks = ranks.1;
      routers = routers.1;
      once = once.1;
      definitions = most_of kind.Definitions 256 t.amounts.definitions definitions.0 definitions.1;
      statements = most_of kind.Statements 256 t.amounts.statements statements.0 statements.1;
      patterns = most_of kind.Patterns 16384 t.amounts.patterns patterns.0 patterns.1;
      prefixes = most_of kind.Prefixes 4096 t.amounts.prefixes limits.0 patterns.2;
      pairs = most_of kind.Origins 16384 t.amounts.pairs pairs.0 pairs.1;
      calls = calls.1;
      places = calls.2;
    }

pub first_fault-whole : (t : PlainTold) → IsWhole t → first_fault t ≡ Ok tt
unfolding first_fault
first_fault-whole t w =
    rw (
      w.names,
      w.twice,
      w.figures,
      w.ranks,
      w.routers,
      w.once,
      within_of kind.Definitions 256 t.amounts.definitions w.definitions,
      within_of
          kind.Statements 256 t.amounts.statements w.statements,
      within_of kind.Patterns 16384 t.amounts.patterns w.patterns,
      within_of
          kind.Prefixes 4096 t.amounts.prefixes w.prefixes,
      within_of kind.Origins 16384 t.amounts.pairs w.pairs,
      w.calls,
      w.places,
    )
    refl

-- ---- whole behind an item, whole before it

pub first_ok : (r s : Result ⊤ PolicyFault) → first_told r s ≡ Ok tt → (r ≡ Ok tt) × (s ≡ Ok tt)
first_ok (Ok u) s h = (refl, h)
first_ok (Err e) s h = absurd cc

group_once : (k : Names) (p : Place) (name : List ℕ) (s : LocSet) → (with_group k p name s).twice ≡ None → k.twice ≡ None
group_once k p name s = by (is_known k name) refl
  where
    told : (o : Option Place) → first_place o p ≡ None → o ≡ None
    told (Some q) h = absurd cc
    told None h = refl

    by : (b : Bool) → is_known k name ≡ b → (with_group k p name s).twice ≡ None → k.twice ≡ None
    by true e h = told k.twice (rw e at h)
    by false e h = rw e at h

prefix_once : (o : PlainOnce) (p : Place) (figure : Result PlainPrefix PolicyFault) → (with_prefix o p figure).fault ≡ Ok tt → o.fault ≡ Ok tt
prefix_once o p figure = by o.fault refl
  where
    by : (r : Result ⊤ PolicyFault) → o.fault ≡ r → (with_prefix o p figure).fault ≡ Ok tt → o.fault ≡ Ok tt
    by (Ok u) e h = e
    by (Err f) e h = let broken = rw e at h in absurd cc

members_whole : (bytes : List ℕ) (t : PlainTold) (name : Lexeme) (r : Result LocSet PolicyFault) → IsWhole (with_members bytes t name r) → IsWhole t
members_whole bytes t name (Ok s) w = record {
  names = w.names;
  twice = group_once t.known name.place (text bytes name) (kept_set t.net t.known s) w.twice;
  figures = w.figures;
  ranks = w.ranks;
  routers = w.routers;
  once = w.once;
  definitions = omega (arith, w.definitions);
  statements = w.statements;
  patterns = w.patterns;
  prefixes = w.prefixes;
  pairs = w.pairs;
  calls = w.calls;
  places = w.places;
}
members_whole bytes t name (Err e) w = let n = w.names in absurd cc

origins_whole : (t : PlainTold) (o : OriginRead) (r : Result LocSet PolicyFault) → IsWhole (with_origins t o r) → IsWhole t
origins_whole t o (Ok s) w = record {
  names = w.names;
  twice = w.twice;
  figures = (first_ok t.rules.figures _ w.figures).0;
  ranks = w.ranks;
  routers = (first_ok t.rules.routers _ w.routers).0;
  once = prefix_once t.once o.place o.prefix w.once;
  definitions = w.definitions;
  statements = w.statements;
  patterns = w.patterns;
  prefixes = omega (arith, w.prefixes);
  pairs = omega (arith, w.pairs);
  calls = w.calls;
  places = w.places;
}
origins_whole t o (Err e) w = let n = w.names in absurd cc

state_whole : (t : PlainTold) (s : StatementRead) → t.names ≡ Ok tt → IsWhole (with_state t s) → IsWhole t
state_whole t s known w = record {
  names = known;
  twice = w.twice;
  figures = (first_ok t.rules.figures _ w.figures).0;
  ranks = (first_ok t.rules.ranks _ w.ranks).0;
  routers = w.routers;
  once = w.once;
  definitions = w.definitions;
  statements = omega (arith, w.statements);
  patterns = omega (arith, w.patterns);
  prefixes = w.prefixes;
  pairs = w.pairs;
  calls = (first_ok t.rules.calls _ w.calls).0;
  places = (first_ok t.rules.places _ w.places).0;
}

pub whole_before : (bytes : List ℕ) (t : PlainTold) (v : ItemRead) → t.names ≡ Ok tt → IsWhole (with_known_item bytes t v) → IsWhole t
whole_before bytes t (read.Group g) known w = members_whole bytes t g.name g.set w
whole_before bytes t (read.Origin o) known w = origins_whole t o o.at w
whole_before bytes t (read.State s) known w = state_whole t s known w
