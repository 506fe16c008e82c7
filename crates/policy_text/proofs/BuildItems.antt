-- Printed items keep the rules, and stand for what was printed.
use Rattle.std.proofs.Common.{◌≡◌, ℕ, ◌≤◌, List, [], ◌∷◌, ◌++◌, length, true, Ok, refl, sym, ap, ap₂, ◌∙◌, arith, append_assoc, append-nil}
use Rattle.std.specs.Prelude.{◌==◌, ◌&&◌, sum_by}
use Rattle.std.specs.List.{AllByRecursion, IsDistinct}
use Rattle.std.specs.Str.{bytes_eq}
use Rattle.std.proofs.lemmas.Bool.{and_parts, eqb-true, le-leb}
use Rattle.text_parts.specs.Texts.{prefix_text}
use Rattle.net_base.specs.Network.{PlainNet, sites, is_router}
use Rattle.net_base.specs.Prefixes.{PlainPrefix, PlainPattern, IsPrefix, IsPattern, only}
use Rattle.policy_grammar.specs.declared.lexeme.Lexeme.{Lexeme}
use Rattle.policy_grammar.specs.Raw.{Arg, RawPattern, RawStatement}
use Rattle.policy_grammar.specs.Raw.RawPattern.{All, Only, UpTo}
use Rattle.policy_grammar.specs.Raw.Item.{Originate, State}
use Rattle.policy_rules.specs.KnownNames.{Names}
use Rattle.policy_rules.specs.Checks.{text, each, learnt, arg_known}
use Rattle.policy_rules.specs.Figures.{prefix_at, pattern_at, pattern_fine, figures_fine}
use Rattle.policy_rules.specs.Ranks.{ranks_fine}
use Rattle.policy_rules.specs.Origins.{origins_fine}
use Rattle.policy_rules.specs.Counts.{capped, call_amount, calls_within, paths_within}
use Rattle.policy_base.specs.declared.policy.FromSet.{FromSet}
use Rattle.policy_base.specs.declared.policy.FromSet.TheVariants as from_set
use Rattle.policy_base.specs.declared.policy.Origin.{Origin}
use Rattle.policy_base.specs.Policies.{PlainStatement}
use Rattle.policy_values.specs.Built.{patterns_of, from_of, statement_of, origin_of}
use Rattle.policy_text.specs.PolicyText.{names_in, is_everything}
use Rattle.policy_text.specs.Printable.{HoldsOnly, call_count}
use Rattle.policy_text.proofs.Readings.{Pairs}
use Rattle.policy_text.proofs.ReadSets.{AreNamesOf}
use Rattle.policy_text.proofs.ReadItems.{IsRawPattern, IsRawFrom, IsRawStatement}
use Rattle.policy_text.proofs.Lookups.{site_names}
use Rattle.text_parts.proofs.PrefixTexts.{prefix_spelled-prefix_text, length_number-decimal}
use Rattle.policy_text.proofs.BuildSets.{known, IsSet, names_stand, names_known}
use Rattle.policy_text.proofs.BuildRankings.{IsFine, ranking_there, steps_known, paths_fit, calls_counted}
use Rattle.policy_text.proofs.BuildRanks.{ranks_kept}
use Rattle.policy_text.proofs.BuildOrigins.{routers_only}

-- a prefix is read from its figure
pub prefix_there : (bytes : List ℕ) (l : Lexeme) (p : PlainPrefix) → IsPrefix p → text bytes l ≡ prefix_text p → prefix_at bytes l ≡ Ok p
prefix_there bytes l p is there = rw (there, prefix_spelled-prefix_text p is) refl

whole_pattern : (p : PlainPattern) → is_everything p ≡ true → record { base = record { bits = 0; len = 0 }; upto = 32 } ≡ p
whole_pattern p all =
    let h = and_parts (p.base.bits == 0) (p.base.len == 0 && p.upto == 32) all in
    let k = and_parts (p.base.len == 0) (p.upto == 32) h.1 in
    let base : record { bits = 0; len = 0 } ≡ p.base =
    ap₂ (λ (b l : ℕ). let q : PlainPrefix = record { bits = b; len = l } in q) (sym (eqb-true p.base.bits 0 h.0))
    (sym (eqb-true p.base.len 0 k.0)) in
    ap₂ (λ (b : PlainPrefix) (n : ℕ). let q : PlainPattern = record { base = b; upto = n } in q) base (sym (eqb-true p.upto 32 k.1))

-- a pattern is read from its figures
pattern_there : (bytes : List ℕ) (raw : RawPattern) (p : PlainPattern) → IsPattern p → IsRawPattern bytes raw p → pattern_at bytes raw ≡ Ok p
pattern_there bytes All p is all = ap Ok (whole_pattern p all)
pattern_there bytes (Only l) p is there =
    let same : only p.base ≡ p = ap (λ (n : ℕ). let q : PlainPattern = record { base = p.base; upto = n } in q) (sym (eqb-true p.upto p.base.len there.1)) in
    rw (prefix_there bytes l p.base is.prefix there.0) (ap Ok same)
pattern_there bytes (UpTo l m) p is there =
    rw (prefix_there bytes l p.base is.prefix there.0, there.1, length_number-decimal p.upto is.most, le-leb p.base.len p.upto is.least, le-leb p.upto 32 is.most) refl

patterns_there : (bytes : List ℕ) (raws : List RawPattern) (ps so_far : List PlainPattern) → AllByRecursion IsPattern ps
    → Pairs (IsRawPattern bytes) raws ps → patterns_of bytes so_far raws ≡ Ok (so_far ++ ps)
patterns_there bytes [] [] so_far fine are = ap Ok (sym (append-nil so_far))
patterns_there bytes [] (p ∷ ps) so_far fine are = absurd are
patterns_there bytes (r ∷ raws) [] so_far fine are = absurd are
patterns_there bytes (r ∷ raws) (p ∷ ps) so_far fine are =
    rw (pattern_there bytes r p fine.0 are.0) (patterns_there bytes raws ps (so_far ++ p ∷ []) fine.1 are.1 ∙ ap Ok (append_assoc so_far (p ∷ []) ps))

patterns_fine : (bytes : List ℕ) (raws : List RawPattern) (ps : List PlainPattern) → AllByRecursion IsPattern ps → Pairs (IsRawPattern bytes) raws ps → each (pattern_fine bytes) raws ≡ Ok tt
patterns_fine bytes [] [] fine are = refl
patterns_fine bytes [] (p ∷ ps) fine are = absurd are
patterns_fine bytes (r ∷ raws) [] fine are = absurd are
patterns_fine bytes (r ∷ raws) (p ∷ ps) fine are = rw (pattern_there bytes r p fine.0 are.0, patterns_fine bytes raws ps fine.1 are.1) refl

module _ (bytes : List ℕ) (net : PlainNet) (apart : IsDistinct bytes_eq (site_names (sites net))) (small : length (sites net) ≤ 768) where
  abbrev names : Names
  names = known bytes net apart small

  abbrev pub IsFineFrom : FromSet → Type 0
  IsFineFrom from_set.Any = Unit {0}
  IsFineFrom (from_set.Named s) = IsSet bytes net apart small s

  -- what the parts of a policy have to keep
  pub record IsFineStatement (s : PlainStatement) : Type 0 where
    pub patterns : AllByRecursion IsPattern s.patterns
    pub ranked : IsFine bytes net apart small s.ranked
    pub calls : call_count s.ranked ≤ 256
    pub from : IsFineFrom s.from

  pub record IsFineOrigin (o : Origin) : Type 0 where
    pub prefix : IsPrefix o.prefix
    pub set : IsSet bytes net apart small o.at
    pub routers : HoldsOnly (is_router net) o.at

  from_there : (a : Arg) (f : FromSet) → IsFineFrom f → IsRawFrom bytes net a f → from_of bytes names a ≡ Ok f
  from_there a from_set.Any fine is = rw is refl
  from_there a (from_set.Named s) fine is = rw (is.1, names_stand bytes net apart small s fine is.0 is.2) refl

  from_known : (a : Arg) (f : FromSet) → IsFineFrom f → IsRawFrom bytes net a f → arg_known bytes names a ≡ Ok tt
  from_known a from_set.Any fine is = rw is refl
  from_known a (from_set.Named s) fine is = rw is.1 (names_known bytes net apart small s fine is.0 is.2)

  pub statement_there : (raw : RawStatement) (s : PlainStatement) → IsFineStatement s → IsRawStatement bytes net raw s → statement_of bytes net names raw ≡ Ok s
  unfolding statement_of
  statement_there raw s fine is =
      rw (
        patterns_there bytes raw.patterns s.patterns
            [] fine.patterns is.patterns,
        ranking_there bytes net apart small s.ranked fine.ranked raw.ranked is.ranked,
        from_there raw.from s.from fine.from is.from,
      )
      refl

  module _ (l : Lexeme) (ls : List Lexeme) (o : Origin) (fine : IsFineOrigin o) (prefix : text bytes l ≡ prefix_text o.prefix) (named : AreNamesOf bytes ls (names_in net o.at)) where
    pub origin_there : origin_of bytes names l ls ≡ Ok o
    unfolding origin_of
    origin_there = rw (prefix_there bytes l o.prefix fine.prefix prefix, names_stand bytes net apart small o.at fine.set ls named) refl

    pub origin_learnt : learnt bytes names (Originate l ls) ≡ Ok names
    origin_learnt = rw (names_known bytes net apart small o.at fine.set ls named) refl

    pub origin_figures : figures_fine bytes (Originate l ls) ≡ Ok tt
    origin_figures = rw (prefix_there bytes l o.prefix fine.prefix prefix) refl

    pub origin_routers : origins_fine bytes net names (Originate l ls) ≡ Ok tt
    origin_routers = routers_only bytes net apart small o.at fine.routers ls named

  -- the rules of statements
  pub statement_learnt : (raw : RawStatement) (s : PlainStatement) → IsFineStatement s → IsRawStatement bytes net raw s → learnt bytes names (State raw) ≡ Ok names
  statement_learnt raw s fine is = rw (steps_known bytes net apart small s.ranked fine.ranked raw.ranked is.ranked, from_known raw.from s.from fine.from is.from) refl

  pub statement_figures : (raw : RawStatement) (s : PlainStatement) → IsFineStatement s → IsRawStatement bytes net raw s → figures_fine bytes (State raw) ≡ Ok tt
  statement_figures raw s fine is = patterns_fine bytes raw.patterns s.patterns fine.patterns is.patterns

  pub statement_ranks : (raw : RawStatement) (s : PlainStatement) → IsFineStatement s → IsRawStatement bytes net raw s → ranks_fine (State raw) ≡ Ok tt
  statement_ranks raw s fine is = ranks_kept bytes net apart small raw s.ranked fine.ranked is.ranked

  pub statement_calls : (raw : RawStatement) (s : PlainStatement) → IsFineStatement s → IsRawStatement bytes net raw s → calls_within (State raw) ≡ Ok tt
  statement_calls raw s fine is =
      let count : sum_by call_amount raw.ranked ≡ call_count s.ranked = calls_counted bytes net apart small s.ranked raw.ranked is.ranked in
      rw (le-leb (capped (sum_by call_amount raw.ranked)) 256 (omega (arith, count, fine.calls))) refl

  pub statement_paths : (raw : RawStatement) (s : PlainStatement) → IsFineStatement s → IsRawStatement bytes net raw s → paths_within (State raw) ≡ Ok tt
  statement_paths raw s fine is = paths_fit bytes net apart small s.ranked fine.ranked raw.ranked is.ranked
