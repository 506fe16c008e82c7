-- The words that the text of a policy is cut into.
use Rattle.std.proofs.Common.{◌≡◌, ℕ, ◌+◌, ◌≤◌, List, [], ◌∷◌, ◌++◌, Bool, true, false, refl, arith, append_assoc, append-nil, subst}
use Rattle.std.specs.Prelude.{◌==◌, nat_lt, codes, if◌then◌else◌, IsTrue}
use Rattle.std.specs.List.{flat_map, AllByRecursion}
use Rattle.std.specs.Fmt.{decimal}
use Rattle.net_base.specs.declared.loc.LocSet.{LocSet}
use Rattle.net_base.specs.declared.net.Site.{Site}
use Rattle.net_base.specs.NameRule.{is_name}
use Rattle.net_base.specs.Network.{PlainNet, sites}
use Rattle.net_base.specs.Prefixes.{PlainPattern, IsPattern, IsPrefix}
use Rattle.net_base.specs.Sets.{holds}
use Rattle.text_parts.specs.Texts.{prefix_text, pattern_text}
use Rattle.policy_grammar.specs.declared.symbol.Symbol.{Symbol}
use Rattle.policy_grammar.specs.declared.symbol.Symbol.TheVariants as symbol
use Rattle.policy_base.specs.declared.call.Call.{Call}
use Rattle.policy_base.specs.declared.call.Call.TheVariants.{Any, Drop, Internal, Link, Path, Of}
use Rattle.policy_words.specs.Words.{word_text}
use Rattle.policy_base.specs.CallWords.{word_of}
use Rattle.policy_base.specs.declared.policy.FromSet.{FromSet}
use Rattle.policy_base.specs.declared.policy.FromSet.TheVariants as from_set
use Rattle.policy_base.specs.declared.policy.Origin.{Origin}
use Rattle.policy_base.specs.Policies.{Ranking, call, calls, prefer, either, both, negated, PlainStatement, PlainPolicy}
use Rattle.policy_text.specs.PolicyText as text
use Rattle.policy_text.specs.PolicyText.{names_from, names_in, are_all, joined_names, set_text, braced_names, place_text, joined_places, has_sets, sets_text, call_text}
use Rattle.policy_text.specs.PolicyText.{calls_text, ranking_text, is_everything, patterns_text, from_text, statement_line, origin_line, policy_text}
use Rattle.policy_text.proofs.Words as words
use Rattle.policy_text.proofs.Words.{Word, sign, name, figure, name_words, set_words, braced_words, place_words, places_words, call_symbol, sets_words, call_words}
use Rattle.policy_text.proofs.Words.{calls_words, ranking_words, pattern_words, patterns_words, from_words, statement_words, origin_words, policy_words}
use Rattle.policy_text.proofs.Pieces.{is_free}
use Rattle.policy_text.proofs.CutWords.{Cuts, CutsBefore, Ends, in_turn, before, ended, both_before, weaker, nothing, chosen, each_before, each_in_turn, CutsBefore-name}
use Rattle.policy_text.proofs.CutWords.{Cuts-comma, Cuts-end, Cuts-open, Cuts-close, Cuts-brace_open, Cuts-brace_close, Cuts-arrow, Cuts-above, Cuts-or, Cuts-and, Cuts-not}
use Rattle.policy_text.proofs.CutWords.{Cuts-le, Cuts-at, Cuts-from, Cuts-originate, CutsBefore-true, CutsBefore-any, CutsBefore-call}
use Rattle.policy_text.proofs.Figures.{is_figure_text-prefix, is_figure_text-number, CutsBefore-figure_text}

abbrev pub AreNames : List (List ℕ) → Type 0
AreNames ns = AllByRecursion (λ n. IsTrue (is_name n)) ns

abbrev pub AreNamed : List Site → Type 0
AreNamed xs = AllByRecursion (λ (x : Site). IsTrue (is_name x.name)) xs

chosen_names : (b : Bool) (n : List ℕ) (ns : List (List ℕ)) → IsTrue (is_name n) → AreNames ns → AreNames (if b then n ∷ ns else ns)
chosen_names true n ns h all = (h, all)
chosen_names false n ns h all = all

pub names_from-AreNames : (s : LocSet) (l : ℕ) (xs : List Site) → AreNamed xs → AreNames (names_from s l xs)
names_from-AreNames s l [] all = tt
names_from-AreNames s l (x ∷ xs) all = chosen_names (holds s l) x.name (names_from s (l + 1) xs) all.0 (names_from-AreNames s (l + 1) xs all.1)

more_names : (ns : List (List ℕ)) → AreNames ns → CutsBefore (flat_map text.next_name ns) (flat_map words.next_name ns) × Ends (flat_map text.next_name ns)
more_names ns all = each_before (λ n. IsTrue (is_name n)) text.next_name words.next_name (λ n h. before Cuts-comma (CutsBefore-name n h)) (λ n t. refl) ns all

pub Cuts-names : (ns : List (List ℕ)) → AreNames ns → CutsBefore (joined_names ns) (name_words ns)
unfolding joined_names
Cuts-names [] all = nothing
Cuts-names (n ∷ ns) all = let rest = more_names ns all.1 in both_before (CutsBefore-name n all.0) rest.0 rest.1

in_braces : (ns : List (List ℕ)) → AreNames ns → CutsBefore (codes "{ " ++ joined_names ns ++ codes " }") (sign symbol.BraceOpen ∷ (name_words ns ++ sign symbol.BraceClose ∷ []))
in_braces ns all = weaker (ended (before Cuts-brace_open (Cuts-names ns all)) Cuts-brace_close (λ t. refl))

Cuts-braced : (ns : List (List ℕ)) → AreNames ns → CutsBefore (braced_names ns) (braced_words ns)
unfolding braced_names
Cuts-braced [] all = in_braces [] all
Cuts-braced (n ∷ []) all = CutsBefore-name n all.0
Cuts-braced (n ∷ m ∷ ns) all = in_braces (n ∷ m ∷ ns) all

abbrev Holds : {A : Type 0} → A → Type 0
Holds x = Unit {0}

all_hold : {A : Type 0} (xs : List A) → AllByRecursion Holds xs
all_hold [] = tt
all_hold (x ∷ xs) = (tt, all_hold xs)

bracketed : (b : Bool) {a : List ℕ} {v : List Word} → CutsBefore a v → CutsBefore (text.in_brackets b a) (words.in_brackets b v)
bracketed false {a} {v} f = rw (append-nil a) f
bracketed true f = weaker (ended (before Cuts-open f) Cuts-close (λ t. refl))

-- two sides of an operator
sides : {a o c : List ℕ} {v w : List Word} {s : Symbol} → CutsBefore a v → Cuts o (sign s ∷ []) → ((t : List ℕ) → is_free (o ++ t) ≡ true)
    → CutsBefore c w → CutsBefore (a ++ o ++ c) (v ++ sign s ∷ [] ++ w)
sides left joint stop right = before (ended left joint stop) right

module _ (net : PlainNet) (named : AreNamed (sites net)) where
  names_fine : (s : LocSet) → AreNames (names_in net s)
  names_fine s = names_from-AreNames s 0 (sites net) named

  Cuts-set : (s : LocSet) → CutsBefore (set_text net (names_in net s)) (set_words net (names_in net s))
  unfolding set_text
  Cuts-set s = chosen (are_all net (names_in net s)) CutsBefore-any (Cuts-names (names_in net s) (names_fine s))

  Cuts-place : (s : LocSet) → CutsBefore (place_text net (names_in net s)) (place_words net (names_in net s))
  unfolding place_text
  Cuts-place s = chosen (are_all net (names_in net s)) CutsBefore-any (Cuts-braced (names_in net s) (names_fine s))

  Cuts-places : (ss : List LocSet) → CutsBefore (joined_places net ss) (places_words net ss)
  unfolding joined_places
  Cuts-places [] = nothing
  Cuts-places (s ∷ ss) =
      let rest = each_before Holds (text.next_place net) (words.next_place net) (λ x h. before Cuts-comma (Cuts-place x)) (λ x t. refl) ss (all_hold ss) in
      both_before (Cuts-place s) rest.0 rest.1

  Cuts-sets : (c : Call) → CutsBefore (sets_text net c) (sets_words net c)
  Cuts-sets Any = nothing
  Cuts-sets Drop = nothing
  Cuts-sets Internal = nothing
  Cuts-sets (Of c s) = Cuts-set s
  Cuts-sets (Link a b) = Cuts-places (a ∷ b ∷ [])
  Cuts-sets (Path ps) = Cuts-places ps

  -- a word with sets in brackets
  in_round : (c : Call) {a : List ℕ} {v : List Word} → CutsBefore a v
      → CutsBefore (word_text (word_of c) ++ codes "(" ++ a ++ codes ")") (sign (call_symbol c) ∷ sign symbol.RoundOpen ∷ (v ++ sign symbol.RoundClose ∷ []))
  in_round c inside = weaker (ended (before (ended (CutsBefore-call c) Cuts-open (λ t. refl)) inside) Cuts-close (λ t. refl))

  by_sets : (c : Call) (b : Bool)
      → CutsBefore (word_text (word_of c) ++ (if b then codes "(" ++ sets_text net c ++ codes ")" else []))
      (sign (call_symbol c) ∷ (if b then sign symbol.RoundOpen ∷ (sets_words net c ++ sign symbol.RoundClose ∷ []) else []))
  by_sets c true =
      let whole : word_text (word_of c) ++ codes "(" ++ sets_text net c ++ codes ")" ≡ word_text (word_of c) ++ (codes "(" ++ sets_text net c ++ codes ")") = simp append_assoc refl in
      subst (λ (a : List ℕ). CutsBefore a (sign (call_symbol c) ∷ sign symbol.RoundOpen ∷ (sets_words net c ++ sign symbol.RoundClose ∷ []))) whole (in_round c (Cuts-sets c))
  by_sets c false = rw (append-nil (word_text (word_of c))) (CutsBefore-call c)

  Cuts-call : (c : Call) → CutsBefore (call_text net c) (call_words net c)
  unfolding call_text
  Cuts-call c = by_sets c (has_sets c)

  Cuts-calls : (cs : List Call) → CutsBefore (calls_text net cs) (calls_words net cs)
  unfolding calls_text
  Cuts-calls [] = nothing
  Cuts-calls (c ∷ cs) =
      let rest = each_before Holds (text.next_sets net) (words.next_sets net) (λ x h. before Cuts-above (Cuts-sets x)) (λ x t. refl) cs (all_hold cs) in
      let whole : word_text (word_of c) ++ codes "(" ++ (sets_text net c ++ flat_map (text.next_sets net) cs) ++ codes ")"
      ≡ word_text (word_of c) ++ codes "(" ++ sets_text net c ++ flat_map (text.next_sets net) cs ++ codes ")" = simp append_assoc refl in
      subst (λ (b : List ℕ). CutsBefore b (sign (call_symbol c) ∷ sign symbol.RoundOpen ∷ (sets_words net c ++ flat_map (words.next_sets net) cs ++ sign symbol.RoundClose ∷ []))) whole
      (in_round c (both_before (Cuts-sets c) rest.0 rest.1))

  Cuts-ranking : (least : ℕ) (r : Ranking) → CutsBefore (ranking_text net least r) (ranking_words net least r)
  Cuts-ranking least (call c) = Cuts-call c
  Cuts-ranking least (calls cs) = Cuts-calls cs
  Cuts-ranking least (prefer a b) = bracketed (nat_lt 1 least) (sides (Cuts-ranking 1 a) Cuts-above (λ t. refl) (Cuts-ranking 2 b))
  Cuts-ranking least (either a b) = bracketed (nat_lt 2 least) (sides (Cuts-ranking 2 a) Cuts-or (λ t. refl) (Cuts-ranking 3 b))
  Cuts-ranking least (both a b) = bracketed (nat_lt 3 least) (sides (Cuts-ranking 3 a) Cuts-and (λ t. refl) (Cuts-ranking 4 b))
  Cuts-ranking least (negated a) = bracketed (nat_lt 4 least) (before Cuts-not (Cuts-ranking 5 a))

  Cuts-from_set : (f : FromSet) → CutsBefore (from_text net f) (from_words net f) × Ends (from_text net f)
  Cuts-from_set from_set.Any = (nothing, record { ends = λ t free. free })
  Cuts-from_set (from_set.Named s) = (before Cuts-from (Cuts-names (names_in net s) (names_fine s)), record { ends = λ t free. refl })

by_length : (p : PlainPattern) → IsPattern p → (b : Bool)
    → CutsBefore (if b then prefix_text p.base else prefix_text p.base ++ codes " le " ++ decimal p.upto)
    (if b then figure (prefix_text p.base) ∷ [] else figure (prefix_text p.base) ∷ sign symbol.Le ∷ figure (decimal p.upto) ∷ [])
by_length p is true = CutsBefore-figure_text (prefix_text p.base) (is_figure_text-prefix p.base is.prefix)
by_length p is false =
    let most : p.upto ≤ 32 = is.most in
    sides (CutsBefore-figure_text (prefix_text p.base) (is_figure_text-prefix p.base is.prefix)) Cuts-le (λ t. refl)
    (CutsBefore-figure_text (decimal p.upto) (is_figure_text-number p.upto (omega arith)))

Cuts-pattern : (p : PlainPattern) → IsPattern p → CutsBefore (pattern_text p) (pattern_words p)
Cuts-pattern p is = by_length p is (p.upto == p.base.len)

pub Cuts-patterns : (ps : List PlainPattern) → AllByRecursion IsPattern ps → CutsBefore (patterns_text ps) (patterns_words ps)
unfolding patterns_text
Cuts-patterns [] all = nothing
Cuts-patterns (p ∷ []) all = chosen (is_everything p) CutsBefore-true (Cuts-pattern p all.0)
Cuts-patterns (p ∷ q ∷ ps) all =
    let rest = each_before IsPattern text.next_pattern words.next_pattern (λ x h. before Cuts-or (Cuts-pattern x h)) (λ x t. refl) (q ∷ ps) all.1 in
    both_before (Cuts-pattern p all.0) rest.0 rest.1

module _ (net : PlainNet) (named : AreNamed (sites net)) where
  pub Cuts-statement : (s : PlainStatement) → AllByRecursion IsPattern s.patterns → Cuts (statement_line net s) (statement_words net s)
  unfolding statement_line
  Cuts-statement s fine =
      let from = Cuts-from_set net named s.from in
      ended (both_before (sides (Cuts-patterns s.patterns fine) Cuts-arrow (λ t. refl) (Cuts-ranking net named 1 s.ranked)) from.0 from.1) Cuts-end (λ t. refl)

  pub Cuts-origin : (o : Origin) → IsPrefix o.prefix → Cuts (origin_line net o) (origin_words net o)
  unfolding origin_line
  Cuts-origin o is =
      let prefix = CutsBefore-figure_text (prefix_text o.prefix) (is_figure_text-prefix o.prefix is) in
      ended (sides (before Cuts-originate prefix) Cuts-at (λ t. refl) (Cuts-names (names_in net o.at) (names_fine net named o.at))) Cuts-end (λ t. refl)

  pub Cuts-policy : (policy : PlainPolicy) → AllByRecursion (λ (o : Origin). IsPrefix o.prefix) policy.origins
      → AllByRecursion (λ (s : PlainStatement). AllByRecursion IsPattern s.patterns) policy.statements
      → Cuts (policy_text net policy) (policy_words net policy)
  Cuts-policy policy prefixes patterns =
      in_turn
      (each_in_turn (λ (o : Origin). IsPrefix o.prefix) (origin_line net) (origin_words net) Cuts-origin policy.origins prefixes)
      (each_in_turn (λ (s : PlainStatement). AllByRecursion IsPattern s.patterns) (statement_line net) (statement_words net) Cuts-statement policy.statements patterns)
