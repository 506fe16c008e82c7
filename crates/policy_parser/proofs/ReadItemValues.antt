-- Groups, origins and statements that are read with what they come to.
use Rattle.std.proofs.Common.{◌≡◌, ℕ, List, [], Result, Ok, Err, refl, sym, ap}
use Rattle.policy_tokens.specs.declared.limits.TheConstants.{BRACKETS}
use Rattle.net_base.specs.declared.loc.LocSet.{LocSet}
use Rattle.net_base.specs.Network.{PlainNet}
use Rattle.net_base.specs.Prefixes.{PlainPrefix}
use Rattle.policy_base.specs.declared.policy.FromSet.{FromSet}
use Rattle.policy_tokens.specs.declared.fault.PolicyFault.{PolicyFault}
use Rattle.policy_grammar.specs.declared.lexeme.Lexeme.{Lexeme}
use Rattle.policy_grammar.specs.declared.symbol.Symbol.TheVariants.{Name, Figure, Equals, At, Arrow, Semicolon}
use Rattle.policy_grammar.specs.Raw.{Arg, RawPattern, RawStatement, Step}
use Rattle.policy_grammar.specs.Raw.Item.{Define, Originate, State}
use Rattle.policy_grammar.specs.Reading.{first_of, after}
use Rattle.policy_grammar.specs.Names.{names_at, braced_at}
use Rattle.policy_grammar.specs.Ranked.{ranked_with, inner_at}
use Rattle.policy_grammar.specs.Items.{predicate_at, from_at, statement_at, define_at, originate_at}
use Rattle.policy_rules.specs.KnownNames.{Names}
use Rattle.policy_rules.specs.Checks.{set_of_names}
use Rattle.policy_rules.specs.Figures.{prefix_at}
use Rattle.policy_values.specs.declared.origins.OriginNames.{OriginNames}
use Rattle.policy_parser.specs.declared.values.StatementRead.{StatementRead}
use Rattle.policy_values.specs.Built.{from_of}
use Rattle.policy_parser.specs.ItemReads.{ReadsGroup, ReadsOrigin, ReadsStatement}
use Rattle.policy_parser.specs.ItemValues.{IsStatement}
use Rattle.policy_values.specs.Parts.{PartsValue, parts_of}
use Rattle.policy_values.specs.PatternValues.{PatternsValue, patterns_value}
use Rattle.policy_values.specs.OriginNames.{origin_names}
use Rattle.policy_values.specs.Reads.{over}
use Rattle.policy_values.proofs.ReadsOver.{over_ok, over_err}

-- the parts of a group
define_told : (ls : List Lexeme) (name : Lexeme) (a b c d members : List Lexeme)
    → first_of Name ls ≡ Ok (name, a) → after Equals a ≡ Ok b → braced_at b ≡ Ok (members, c) → after Semicolon c ≡ Ok d → define_at ls ≡ Ok (Define name members, d)
unfolding define_at
define_told ls name a b c d members named equals braced ends = rw (named, equals, braced, ends) refl

-- the parts of a prefix with its origins
originate_told : (ls : List Lexeme) (figure : Lexeme) (a b c d names : List Lexeme)
    → first_of Figure ls ≡ Ok (figure, a) → after At a ≡ Ok b → names_at b ≡ Ok (names, c) → after Semicolon c ≡ Ok d → originate_at ls ≡ Ok (Originate figure names, d)
unfolding originate_at
originate_told ls figure a b c d names spelled at named ends = rw (spelled, at, named, ends) refl

-- the parts of a statement
statement_told : (ls a b c d e : List Lexeme) (patterns : List RawPattern) (steps : List Step) (from : Arg)
    → predicate_at ls ≡ Ok (patterns, a) → after Arrow a ≡ Ok b → ranked_with (inner_at BRACKETS) [] b ≡ Ok (steps, c) → from_at c ≡ Ok (from, d) → after Semicolon d ≡ Ok e
    → statement_at ls ≡ Ok (State (record { patterns = patterns; ranked = steps; from = from }), e)
unfolding statement_at
statement_told ls a b c d e patterns steps from governs arrow ranked claims ends = rw (governs, arrow, ranked, claims, ends) refl

module _ (bytes : List ℕ) (net : PlainNet) (known : Names) where
  -- a group
  pub group_read : (ls : List Lexeme) (name : Lexeme) (a b c d : List Lexeme) (set : Result LocSet PolicyFault)
      → first_of Name ls ≡ Ok (name, a) → after Equals a ≡ Ok b → over (set_of_names bytes known) (braced_at b) ≡ Ok (set, c) → after Semicolon c ≡ Ok d
      → ReadsGroup bytes net known ls d (Ok (record { name = name; set = set }))
  group_read ls name a b c d set named equals members ends =
      let m = over_ok (set_of_names bytes known) (braced_at b) set c members in
      (name, m.0, define_told ls name a b c d m.0 named equals m.1 ends, record { name = refl; set = sym m.2 })

  -- a prefix with its origins
  pub origin_read : (ls : List Lexeme) (figure : Lexeme) (a b c d : List Lexeme) (names : OriginNames) (prefix : Result PlainPrefix PolicyFault)
      → first_of Figure ls ≡ Ok (figure, a) → after At a ≡ Ok b → over (origin_names bytes net known) (names_at b) ≡ Ok (names, c) → after Semicolon c ≡ Ok d → prefix ≡ prefix_at bytes figure
      → ReadsOrigin bytes net known ls d (Ok (record { place = figure.place; prefix = prefix; at = names.at; routers = names.routers }))
  origin_read ls figure a b c d names prefix spelled at named ends is =
      let m = over_ok (origin_names bytes net known) (names_at b) names c named in (
        figure,
        m.0,
        originate_told ls figure a b c d m.0 spelled at m.1 ends,
        record {
          place = refl;
          prefix = is;
          at = sym (ap (λ (n : OriginNames). n.at) m.2);
          routers = sym (ap (λ (n : OriginNames). n.routers) m.2);
        },
      )

  -- a statement
  pub statement_read : (ls a b c d e : List Lexeme) (p : PatternsValue) (q : PartsValue) (from : Result FromSet PolicyFault) (v : StatementRead)
      → over (patterns_value bytes) (predicate_at ls) ≡ Ok (p, a) → after Arrow a ≡ Ok b → over (parts_of bytes net known) (ranked_with (inner_at BRACKETS) [] b) ≡ Ok (q, c)
      → over (from_of bytes known) (from_at c) ≡ Ok (from, d) → after Semicolon d ≡ Ok e
      → ((s : RawStatement) → p ≡ patterns_value bytes s.patterns → q ≡ parts_of bytes net known s.ranked → from ≡ from_of bytes known s.from → IsStatement bytes net known s v)
      → ReadsStatement bytes net known ls e (Ok v)
  statement_read ls a b c d e p q from v governs arrow ranked claims ends judged =
      let x = over_ok (patterns_value bytes) (predicate_at ls) p a governs in
      let y = over_ok (parts_of bytes net known) (ranked_with (inner_at BRACKETS) [] b) q c ranked in
      let z = over_ok (from_of bytes known) (from_at c) from d claims in
      let s : RawStatement = record { patterns = x.0; ranked = y.0; from = z.0 } in
      (s, statement_told ls a b c d e x.0 y.0 z.0 x.1 arrow y.1 z.1 ends, judged s (sym x.2) (sym y.2) (sym z.2))

  -- a statement with no expression
  pub statement_unread : (ls a b : List Lexeme) (p : PatternsValue) (e : PolicyFault)
      → over (patterns_value bytes) (predicate_at ls) ≡ Ok (p, a) → after Arrow a ≡ Ok b → over (parts_of bytes net known) (ranked_with (inner_at BRACKETS) [] b) ≡ Err e → statement_at ls ≡ Err e
  unfolding statement_at
  statement_unread ls a b p e governs arrow ranked =
      let x = over_ok (patterns_value bytes) (predicate_at ls) p a governs in
      rw (x.1, arrow, over_err (parts_of bytes net known) (ranked_with (inner_at BRACKETS) [] b) e ranked) refl

  -- a statement with no sources behind `from`
  pub statement_unclaimed : (ls a b c : List Lexeme) (p : PatternsValue) (q : PartsValue) (e : PolicyFault)
      → over (patterns_value bytes) (predicate_at ls) ≡ Ok (p, a) → after Arrow a ≡ Ok b
      → over (parts_of bytes net known) (ranked_with (inner_at BRACKETS) [] b) ≡ Ok (q, c) → over (from_of bytes known) (from_at c) ≡ Err e
      → statement_at ls ≡ Err e
  unfolding statement_at
  statement_unclaimed ls a b c p q e governs arrow ranked claims =
      let x = over_ok (patterns_value bytes) (predicate_at ls) p a governs in
      let y = over_ok (parts_of bytes net known) (ranked_with (inner_at BRACKETS) [] b) q c ranked in
      rw (x.1, arrow, y.1, over_err (from_of bytes known) (from_at c) e claims) refl
