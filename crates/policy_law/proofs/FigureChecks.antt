-- Figures that are prefixes and lengths.
use Rattle.std.proofs.Common.{◌≡◌, ℕ, List, [], ◌∷◌, ◌++◌, map, Bool, true, false, Option, Some, None, Result, Ok, Err, refl, sym, ap, ◌∙◌, append-nil, append_assoc}
use Rattle.std.specs.Prelude.{◌&&◌, nat_le}
use Rattle.std.specs.List.{flat_map}
use Rattle.net_base.specs.declared.place.Place.{Place}
use Rattle.net_base.specs.declared.prefix_text.PrefixFault.{PrefixFault}
use Rattle.net_base.specs.Prefixes.{PlainPrefix, PlainPattern, only}
use Rattle.net_base.specs.PrefixText.{prefix_spelled, length_number}
use Rattle.net_base.specs.Steps.{◌>>=◌, or_fault, unless}
use Rattle.policy_tokens.specs.declared.fault.PolicyFault.{PolicyFault}
use Rattle.policy_tokens.specs.declared.fault.PolicyFault.TheVariants.{PrefixBad}
use Rattle.policy_grammar.specs.declared.lexeme.Lexeme.{Lexeme}
use Rattle.policy_grammar.specs.Raw.{RawPattern}
use Rattle.policy_grammar.specs.Raw.RawPattern.{All, Only, UpTo}
use Rattle.policy_rules.specs.Checks.{text}
use Rattle.policy_rules.specs.Figures.{or_bad, prefix_at, upto_at, pattern_at, pattern_fine, figures_fine}
use Rattle.policy_values.specs.Built.{patterns_of}
use Rattle.policy_law.specs.Told.{told}
use Rattle.policy_law.specs.Trees.{Written, define, originate, state, item_of}
use Rattle.policy_law.specs.Figures.{prefix_in, prefix_of, length_in, length_of, pattern_of, if_err, no_prefix, unless_true, unless_within, no_length, wrong_in_pattern, wrong_figures}
use Rattle.policy_law.proofs.Binds.{told_join, told_end, told_gives, each_told}

spelled_or_told : (l : Lexeme) (r : Result PlainPrefix PrefixFault) → or_bad l r ≡ (told PrefixBad (if_err l.place r) >>= λ _. Ok (prefix_in r))
spelled_or_told l (Ok p) = refl
spelled_or_told l (Err e) = refl

-- a figure is a prefix, or it is told
pub prefix_told : (bytes : List ℕ) (l : Lexeme) → prefix_at bytes l ≡ (told PrefixBad (no_prefix bytes l) >>= λ _. Ok (prefix_of bytes l))
prefix_told bytes l = spelled_or_told l (prefix_spelled (text bytes l))

within_told : (p : Place) (b : Bool) (x : PlainPattern) → (unless (PrefixBad p) b >>= λ _. Ok x) ≡ (told PrefixBad (unless_true p b) >>= λ _. Ok x)
within_told p true x = refl
within_told p false x = refl

length_told : (p : Place) (base : PlainPrefix) (o : Option ℕ)
    → (or_fault (PrefixBad p) o >>= λ n. unless (PrefixBad p) (nat_le base.len n && nat_le n 32) >>= λ _. Ok (let q : PlainPattern = record { base = base; upto = n } in q))
    ≡ (told PrefixBad (unless_within p base.len o) >>= λ _. Ok (record { base = base; upto = length_in o }))
length_told p base (Some n) = within_told p (nat_le base.len n && nat_le n 32) (record { base = base; upto = n })
length_told p base None = refl

pub pattern_told : (bytes : List ℕ) (p : RawPattern) → pattern_at bytes p ≡ (told PrefixBad (wrong_in_pattern bytes p) >>= λ _. Ok (pattern_of bytes p))
pattern_told bytes All = refl
pattern_told bytes (Only l) =
    ap (λ (r : Result PlainPrefix PolicyFault). r >>= λ p. Ok (only p)) (prefix_told bytes l) ∙ told_gives PrefixBad (no_prefix bytes l) (prefix_of bytes l) (λ p. Ok (only p))
pattern_told bytes (UpTo l m) =
    let base : PlainPrefix = prefix_of bytes l in
    ap (λ (r : Result PlainPrefix PolicyFault). r >>= λ p. upto_at bytes p m) (prefix_told bytes l)
    ∙ told_gives PrefixBad (no_prefix bytes l) base (λ p. upto_at bytes p m)
    ∙ ap (λ (r : Result PlainPattern PolicyFault). told PrefixBad (no_prefix bytes l) >>= λ _. r) (length_told m.place base (length_number (text bytes m)))
    ∙ told_join PrefixBad (no_prefix bytes l) (no_length bytes base m) (Ok (record { base = base; upto = length_of bytes m }))

fine_told : (bytes : List ℕ) (p : RawPattern) → pattern_fine bytes p ≡ told PrefixBad (wrong_in_pattern bytes p)
fine_told bytes p =
    let xs : List Place = wrong_in_pattern bytes p in
    ap (λ (r : Result PlainPattern PolicyFault). r >>= λ _. Ok tt) (pattern_told bytes p) ∙ told_gives PrefixBad xs (pattern_of bytes p) (λ _. Ok tt) ∙ told_end PrefixBad xs

-- the figures of an item are prefixes and lengths, or the first is told that is not
pub figures_told : (bytes : List ℕ) (x : Written) → figures_fine bytes (item_of x) ≡ told PrefixBad (wrong_figures bytes x)
figures_told bytes (define group members) = refl
figures_told bytes (originate prefix names) =
    let xs : List Place = no_prefix bytes prefix in
    ap (λ (r : Result PlainPrefix PolicyFault). r >>= λ _. Ok tt) (prefix_told bytes prefix) ∙ told_gives PrefixBad xs (prefix_of bytes prefix) (λ _. Ok tt) ∙ told_end PrefixBad xs
figures_told bytes (state patterns e from) = each_told (pattern_fine bytes) PrefixBad (wrong_in_pattern bytes) (fine_told bytes) patterns

-- the patterns of a statement
pub patterns_told : (bytes : List ℕ) (so_far : List PlainPattern) (ps : List RawPattern)
    → patterns_of bytes so_far ps ≡ (told PrefixBad (flat_map (wrong_in_pattern bytes) ps) >>= λ _. Ok (so_far ++ map (pattern_of bytes) ps))
patterns_told bytes so_far [] = ap Ok (sym (append-nil so_far))
patterns_told bytes so_far (p ∷ ps) =
    let q : PlainPattern = pattern_of bytes p in
    let xs : List Place = wrong_in_pattern bytes p in
    ap (λ (r : Result PlainPattern PolicyFault). r >>= λ q. patterns_of bytes (so_far ++ q ∷ []) ps) (pattern_told bytes p)
    ∙ told_gives PrefixBad xs q (λ q. patterns_of bytes (so_far ++ q ∷ []) ps)
    ∙ ap (λ (r : Result (List PlainPattern) PolicyFault). told PrefixBad xs >>= λ _. r) (patterns_told bytes (so_far ++ q ∷ []) ps)
    ∙ told_join PrefixBad xs (flat_map (wrong_in_pattern bytes) ps) (Ok (so_far ++ q ∷ [] ++ map (pattern_of bytes) ps))
    ∙ ap (λ (qs : List PlainPattern). told PrefixBad (xs ++ flat_map (wrong_in_pattern bytes) ps) >>= λ _. Ok qs) (append_assoc so_far (q ∷ []) (map (pattern_of bytes) ps))
