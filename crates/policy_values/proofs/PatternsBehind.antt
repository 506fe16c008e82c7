-- Patterns that are read one after another.
use Rattle.std.proofs.Common.{◌≡◌, ℕ, ◌+◌, ◌≤◌, Bool, List, [], ◌∷◌, ◌++◌, length, None, Result, Ok, Err, refl, sym, ap, ◌∙◌, arith, if◌then◌else◌}
use Rattle.std.specs.Prelude.{⊤}
use Rattle.std.proofs.lemmas.Bool.{le-leb}
use Rattle.net_base.specs.Prefixes.{PlainPattern}
use Rattle.net_base.specs.Steps.{◌>>=◌}
use Rattle.net_base.proofs.StepLemmas.{ok_same}
use Rattle.policy_base.specs.declared.limits.TheConstants.{PATTERNS}
use Rattle.policy_tokens.specs.declared.fault.PolicyFault.{PolicyFault}
use Rattle.policy_grammar.specs.declared.lexeme.Lexeme.{Lexeme}
use Rattle.policy_grammar.specs.declared.symbol.Symbol.TheVariants.{Or, True}
use Rattle.policy_grammar.specs.Raw.{RawPattern}
use Rattle.policy_grammar.specs.Reading.{Read, past, chain}
use Rattle.policy_grammar.specs.Items.{pattern_at as pattern_in, pattern_link, predicate_at}
use Rattle.policy_rules.specs.Checks.{each}
use Rattle.policy_rules.specs.Figures.{pattern_at, pattern_fine}
use Rattle.policy_rules.proofs.Verdicts.{last_told}
use Rattle.policy_values.specs.Built.{patterns_of}
use Rattle.policy_values.specs.PatternValues.{PatternsValue, with_fine, with_pattern, no_patterns, patterns_behind, patterns_value, value_link}
use Rattle.policy_values.specs.Reads.{over}
use Rattle.policy_values.proofs.ReadsOver.{over_chain, over_ok}

-- whether its figures are fine
abbrev fine_of : Result PlainPattern PolicyFault → Result ⊤ PolicyFault
fine_of r = r >>= λ _. Ok tt

count_fine : (v : PatternsValue) (r : Result PlainPattern PolicyFault) → (with_fine v r).count ≡ v.count + 1
count_fine v (Ok q) = refl
count_fine v (Err e) = refl

figures_fine : (v : PatternsValue) (r : Result PlainPattern PolicyFault) → (with_fine v r).figures ≡ fine_of r
figures_fine v (Ok q) = refl
figures_fine v (Err e) = refl

-- where there is room, a pattern with fine figures is kept
kept_fine : (v : PatternsValue) (q : PlainPattern) → v.figures ≡ Ok tt → v.count + 1 ≤ 16384 → with_pattern v (Ok q) ≡ record { count = v.count + 1; figures = Ok tt; list = v.list ++ q ∷ [] }
kept_fine v q fine room =
    ap (λ (r : Result ⊤ PolicyFault). with_fine v (r >>= λ _. Ok q)) fine
    ∙ ap (λ (b : Bool). let w : PatternsValue = record { count = v.count + 1; figures = Ok tt; list = if b then v.list ++ q ∷ [] else v.list } in w) (le-leb (v.count + 1) 16384 room)

-- one pattern more is counted
pub count_more : (v w : PatternsValue) (r : Result PlainPattern PolicyFault) → (let told : Result PatternsValue PolicyFault = Ok (with_pattern v r) in told ≡ Ok w) → w.count ≡ v.count + 1
count_more v w r is = ap (λ (x : PatternsValue). x.count) (sym (ok_same (with_pattern v r) w is)) ∙ count_fine v (v.figures >>= λ _. r)

module _ (bytes : List ℕ) where
  -- a link, where its pattern was read
  pub link_ok : (joint : Lexeme) (v w : PatternsValue) (ls rest : List Lexeme) (r : Result PlainPattern PolicyFault) → over (pattern_at bytes) (pattern_in ls) ≡ Ok (r, rest)
      → (let told : Result PatternsValue PolicyFault = Ok (with_pattern v r) in told ≡ Ok w) → value_link bytes joint v ls ≡ Ok (w, rest)
  link_ok joint v w ls rest r read is =
      rw read (ap (λ (x : PatternsValue). let y : PatternsValue × List Lexeme = (x, rest) in let z : Read PatternsValue = Ok y in z)
      (ok_same (with_pattern v r) w is))

  -- a link, where no pattern is
  pub link_err : (joint : Lexeme) (v : PatternsValue) (ls : List Lexeme) (e : PolicyFault) → over (pattern_at bytes) (pattern_in ls) ≡ Err e → value_link bytes joint v ls ≡ Err e
  link_err joint v ls e read = rw read refl

  behind_push : (v : PatternsValue) (ps : List RawPattern) (p : RawPattern) → patterns_behind bytes v (ps ++ p ∷ []) ≡ with_pattern (patterns_behind bytes v ps) (pattern_at bytes p)
  behind_push v [] p = refl
  behind_push v (q ∷ ps) p = behind_push (with_pattern v (pattern_at bytes q)) ps p

  one_more : (joint : Lexeme) (ps : List RawPattern) (ls : List Lexeme) → value_link bytes joint (patterns_value bytes ps) ls ≡ over (patterns_value bytes) (pattern_link joint ps ls)
  one_more joint ps ls = by (pattern_in ls)
    where
      by : (r : Read RawPattern) → (over (pattern_at bytes) r >>= λ x. Ok (with_pattern (patterns_value bytes ps) x.0, x.1)) ≡ over (patterns_value bytes) (r >>= λ x. Ok (ps ++ x.0 ∷ [], x.1))
      by (Ok x) = rw (behind_push no_patterns ps x.0) refl
      by (Err e) = refl

  -- what a list of patterns comes to, one after another
  pub patterns_over : (n : ℕ) (ps : List RawPattern) (ls : List Lexeme) → chain Or (value_link bytes) n (patterns_value bytes ps) ls ≡ over (patterns_value bytes) (chain Or pattern_link n ps ls)
  patterns_over n ps ls = over_chain (patterns_value bytes) Or pattern_link (value_link bytes) one_more n ps ls

  -- patterns that are joined by `or`
  pub predicate_with : (ls rest : List Lexeme) (first : Result PlainPattern PolicyFault) (none v : PatternsValue) (r : Read PatternsValue)
      → none ≡ no_patterns → past True ls ≡ None → over (pattern_at bytes) (pattern_in ls) ≡ Ok (first, rest)
      → (let told : Result PatternsValue PolicyFault = Ok (with_pattern none first) in told ≡ Ok v)
      → chain Or (value_link bytes) (length rest) v rest ≡ r → over (patterns_value bytes) (predicate_at ls) ≡ r
  unfolding predicate_at
  predicate_with ls rest first none v r begins absent read is e =
      let x = over_ok (pattern_at bytes) (pattern_in ls) first rest read in
      let same : patterns_value bytes (x.0 ∷ []) ≡ v = ap (with_pattern no_patterns) x.2 ∙ ap (λ (w : PatternsValue). with_pattern w first) (sym begins) ∙ ok_same (with_pattern none first) v is in
      rw (absent, x.1) (sym (patterns_over (length rest) (x.0 ∷ []) rest) ∙ ap (λ (w : PatternsValue). chain Or (value_link bytes) (length rest) w rest) same ∙ e)

  count_behind : (v : PatternsValue) (ps : List RawPattern) → (patterns_behind bytes v ps).count ≡ v.count + length ps
  count_behind v [] = omega arith
  count_behind v (p ∷ ps) = omega (arith, count_behind (with_pattern v (pattern_at bytes p)) ps, count_fine v (v.figures >>= λ _. pattern_at bytes p))

  -- their number
  pub patterns_count : (ps : List RawPattern) → (patterns_value bytes ps).count ≡ length ps
  patterns_count ps = omega (arith, count_behind no_patterns ps)

  figures_behind : (v : PatternsValue) (ps : List RawPattern) → (patterns_behind bytes v ps).figures ≡ (v.figures >>= λ _. each (pattern_fine bytes) ps)
  figures_behind v [] = sym (last_told v.figures)
  figures_behind v (p ∷ ps) =
      figures_behind (with_pattern v (pattern_at bytes p)) ps
      ∙ ap (λ (r : Result ⊤ PolicyFault). r >>= λ _. each (pattern_fine bytes) ps) (figures_fine v (v.figures >>= λ _. pattern_at bytes p))
      ∙ by v.figures (pattern_at bytes p)
    where
      by : (r : Result ⊤ PolicyFault) (q : Result PlainPattern PolicyFault)
          → (fine_of (r >>= λ _. q) >>= λ _. each (pattern_fine bytes) ps) ≡ (r >>= λ _. fine_of q >>= λ _. each (pattern_fine bytes) ps)
      by (Ok u) q = refl
      by (Err e) q = refl

  -- their first bad figure
  pub patterns_figures : (ps : List RawPattern) → (patterns_value bytes ps).figures ≡ each (pattern_fine bytes) ps
  patterns_figures ps = figures_behind no_patterns ps

  list_behind : (v : PatternsValue) (ps : List RawPattern) → v.figures ≡ Ok tt → each (pattern_fine bytes) ps ≡ Ok tt → v.count + length ps ≤ 16384
      → patterns_of bytes v.list ps ≡ Ok (patterns_behind bytes v ps).list
  list_behind v [] fine each_fine few = refl
  list_behind v (p ∷ ps) fine each_fine few = by (pattern_at bytes p) refl each_fine (λ w. list_behind w ps)
    where
      by : (r : Result PlainPattern PolicyFault) → pattern_at bytes p ≡ r → (fine_of r >>= λ _. each (pattern_fine bytes) ps) ≡ Ok tt
          → ((w : PatternsValue) → w.figures ≡ Ok tt → each (pattern_fine bytes) ps ≡ Ok tt → w.count + length ps ≤ 16384 → patterns_of bytes w.list ps ≡ Ok (patterns_behind bytes w ps).list)
          → patterns_of bytes v.list (p ∷ ps) ≡ Ok (patterns_behind bytes v (p ∷ ps)).list
      by (Ok q) is rest more =
          let w : PatternsValue = record { count = v.count + 1; figures = Ok tt; list = v.list ++ q ∷ [] } in
          rw is (more w refl rest (omega (arith, few))
          ∙ ap (λ (x : PatternsValue). let r : Result (List PlainPattern) PolicyFault = Ok (patterns_behind bytes x ps).list in r)
          (sym (ap (with_pattern v) is ∙ kept_fine v q fine (omega (arith, few)))))
      by (Err e) is rest more = absurd cc

  -- the patterns, where each figure is fine and there are no more than a policy may have
  pub patterns_list : (ps : List RawPattern) → each (pattern_fine bytes) ps ≡ Ok tt → length ps ≤ PATTERNS → patterns_of bytes [] ps ≡ Ok (patterns_value bytes ps).list
  patterns_list ps fine few = list_behind no_patterns ps refl fine (omega (arith, few))
