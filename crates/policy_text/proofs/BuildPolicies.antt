-- A policy is built of its printed items.
use Rattle.std.proofs.Common.{◌≡◌, ℕ, ◌+◌, ◌≤◌, List, [], ◌∷◌, ◌++◌, length, map, false, Result, Ok, refl, sym, ap, ◌∙◌, subst, arith, append_assoc, append-nil}
use Rattle.std.specs.Prelude.{⊤, sum_by}
use Rattle.std.specs.List.{AllByRecursion, IsDistinct, list_any}
use Rattle.std.specs.Str.{bytes_eq}
use Rattle.std.proofs.lemmas.Bool.{le-leb}
use Rattle.std.proofs.lemmas.List.Sums.{sum_by-cons, sum_by-append}
use Rattle.list_law.proofs.Keys.{others_before}
use Rattle.policy_tokens.specs.declared.kind.Kind.{Kind}
use Rattle.policy_tokens.specs.declared.kind.Kind.TheVariants as kind
use Rattle.net_base.specs.Network.{PlainNet, sites}
use Rattle.net_base.specs.Prefixes.{PlainPrefix, same_prefix}
use Rattle.policy_tokens.specs.declared.fault.PolicyFault.{PolicyFault}
use Rattle.policy_grammar.specs.declared.lexeme.Lexeme.{Lexeme}
use Rattle.policy_grammar.specs.Raw.{Item}
use Rattle.policy_grammar.specs.Raw.Item.{Originate}
use Rattle.policy_rules.specs.KnownNames.{Names}
use Rattle.policy_rules.specs.Checks.{each, learnt, all_learnt}
use Rattle.policy_rules.specs.Figures.{figures_fine, prefix_at}
use Rattle.policy_rules.specs.Ranks.{ranks_fine}
use Rattle.policy_rules.specs.Origins.{origins_fine, once_from}
use Rattle.policy_rules.specs.Counts.{amount, capped, within, items_within, calls_within, paths_within}
use Rattle.policy_base.specs.declared.policy.Origin.{Origin}
use Rattle.net_base.specs.SetOperations.{size_of}
use Rattle.policy_base.specs.Policies.{PlainStatement, PlainPolicy, IsPolicy}
use Rattle.policy_values.specs.Built.{statements_of, origins_of}
use Rattle.policy_parser.specs.Spelled.{rules_kept, origins_spelled, policy_built}
use Rattle.policy_parser.proofs.Steps.{same_prefix_equiv}
use Rattle.policy_text.proofs.Readings.{Pairs}
use Rattle.policy_text.proofs.ReadItems.{IsRawPattern, IsStatementItem, IsOriginItem}
use Rattle.policy_text.proofs.ReadPolicies.{AreItems}
use Rattle.policy_text.proofs.Lookups.{site_names}
use Rattle.policy_text.proofs.BuildRankings.{length-pairs}
use Rattle.policy_text.proofs.BuildSets.{known}
use Rattle.policy_text.proofs.BuildItems.{IsFineStatement, IsFineOrigin, prefix_there, statement_there, origin_there, origin_learnt, origin_figures, origin_routers}
use Rattle.policy_text.proofs.BuildItems.{statement_learnt, statement_figures, statement_ranks, statement_calls, statement_paths}

-- what holds of each item, by what it was printed from
from_pairs : {X : Type 0} (R : Item → X → Type 0) (P : X → Type 0) (Q : Item → Type 0) → ((item : Item) (x : X) → R item x → P x → Q item)
    → (items : List Item) (xs : List X) → Pairs R items xs → AllByRecursion P xs → AllByRecursion Q items
from_pairs R P Q one [] [] are all = tt
from_pairs R P Q one [] (x ∷ xs) are all = absurd are
from_pairs R P Q one (i ∷ items) [] are all = absurd are
from_pairs R P Q one (i ∷ items) (x ∷ xs) are all = (one i x are.0 all.0, from_pairs R P Q one items xs are.1 all.1)

all_append : (Q : Item → Type 0) (xs ys : List Item) → AllByRecursion Q xs → AllByRecursion Q ys → AllByRecursion Q (xs ++ ys)
all_append Q [] ys a b = b
all_append Q (x ∷ xs) ys a b = (a.0, all_append Q xs ys a.1 b)

each_passes : (check : Item → Result ⊤ PolicyFault) (items : List Item) → AllByRecursion (λ i. check i ≡ Ok tt) items → each check items ≡ Ok tt
each_passes check [] all = refl
each_passes check (i ∷ items) all = rw (all.0, each_passes check items all.1) refl

all_known : (bytes : List ℕ) (names : Names) (items : List Item) → AllByRecursion (λ i. learnt bytes names i ≡ Ok names) items → all_learnt bytes names items ≡ Ok names
all_known bytes names [] all = refl
all_known bytes names (i ∷ items) all = rw all.0 (all_known bytes names items all.1)

-- sums over items, by what they were printed from
sum_pairs : {X : Type 0} (R : Item → X → Type 0) (f : Item → ℕ) (g : X → ℕ) → ((item : Item) (x : X) → R item x → f item ≡ g x)
    → (items : List Item) (xs : List X) → Pairs R items xs → sum_by f items ≡ sum_by g xs
sum_pairs R f g one [] [] are = refl
sum_pairs R f g one [] (x ∷ xs) are = absurd are
sum_pairs R f g one (i ∷ items) [] are = absurd are
sum_pairs R f g one (i ∷ items) (x ∷ xs) are = omega (arith, sum_by-cons f i items, sum_by-cons g x xs, one i x are.0, sum_pairs R f g one items xs are.1)

sum_nothing : {X : Type 0} (xs : List X) → sum_by (λ (x : X). 0) xs ≡ 0
sum_nothing [] = refl
sum_nothing {X} (x ∷ xs) = omega (arith, sum_by-cons (λ (y : X). 0) x xs, sum_nothing xs)

sum_ones : {X : Type 0} (xs : List X) → sum_by (λ (x : X). 1) xs ≡ length xs
sum_ones [] = refl
sum_ones {X} (x ∷ xs) = omega (arith, sum_by-cons (λ (y : X). 1) x xs, sum_ones xs)

fits : (k : Kind) (most n : ℕ) → n ≤ most → within k most (capped n) ≡ Ok tt
fits k most n few = rw (le-leb (capped n) most (omega (arith, few))) refl

abbrev prefixes : List Origin → List PlainPrefix
prefixes os = map (λ (o : Origin). o.prefix) os

module _ (bytes : List ℕ) (net : PlainNet) (apart : IsDistinct bytes_eq (site_names (sites net))) (small : length (sites net) ≤ 768) where
  abbrev names : Names
  names = known bytes net apart small

  abbrev FineOrigin : Origin → Type 0
  FineOrigin o = IsFineOrigin bytes net apart small o

  abbrev FineStatement : PlainStatement → Type 0
  FineStatement s = IsFineStatement bytes net apart small s

  -- what passes for origins and for statements passes for all items
  all_items : (Q : Item → Type 0) → ((i : Item) (o : Origin) → IsOriginItem bytes net i o → FineOrigin o → Q i)
      → ((i : Item) (s : PlainStatement) → IsStatementItem bytes net i s → FineStatement s → Q i)
      → (items : List Item) (policy : PlainPolicy) → AreItems bytes net items policy → AllByRecursion FineOrigin policy.origins
      → AllByRecursion FineStatement policy.statements → AllByRecursion Q items
  all_items Q origin statement items policy are os ss =
      rw are.2 (all_append Q are.0 are.1 (from_pairs (IsOriginItem bytes net) FineOrigin Q origin are.0 policy.origins are.3 os)
      (from_pairs (IsStatementItem bytes net) FineStatement Q statement are.1 policy.statements are.4 ss))

  once_origin : (before : List PlainPrefix) (l : Lexeme) (ls : List Lexeme) (p : PlainPrefix) (items : List Item) → prefix_at bytes l ≡ Ok p → list_any (same_prefix p) before ≡ false
      → once_from bytes before (Originate l ls ∷ items) ≡ once_from bytes (before ++ p ∷ []) items
  once_origin before l ls p items is new = rw (is, new) refl

  once_statements : (before : List PlainPrefix) (items : List Item) (ss : List PlainStatement) → Pairs (IsStatementItem bytes net) items ss → once_from bytes before items ≡ Ok tt
  once_statements before [] [] are = refl
  once_statements before [] (s ∷ ss) are = absurd are
  once_statements before (i ∷ items) [] are = absurd are
  once_statements before (i ∷ items) (s ∷ ss) are = rw are.0.1 (once_statements before items ss are.1)

  once_origins : (before : List PlainPrefix) (items more : List Item) (os : List Origin) → Pairs (IsOriginItem bytes net) items os
      → AllByRecursion FineOrigin os → IsDistinct same_prefix (before ++ prefixes os)
      → once_from bytes before (items ++ more) ≡ once_from bytes (before ++ prefixes os) more
  once_origins before [] more [] are fine distinct = ap (λ (b : List PlainPrefix). once_from bytes b more) (sym (append-nil before))
  once_origins before [] more (o ∷ os) are fine distinct = absurd are
  once_origins before (i ∷ items) more [] are fine distinct = absurd are
  once_origins before (i ∷ items) more (o ∷ os) are fine distinct =
      let here = are.0 in
      let order : before ++ o.prefix ∷ [] ++ prefixes os ≡ before ++ prefixes (o ∷ os) = append_assoc before (o.prefix ∷ []) (prefixes os) in
      rw here.2 (once_origin before here.0 here.1 o.prefix (items ++ more) (prefix_there bytes here.0 o.prefix fine.0.prefix here.3)
      (others_before same_prefix (λ p q apart'. same_prefix_equiv.symm q p ∙ apart') before o.prefix (prefixes os) distinct)
      ∙ once_origins (before ++ o.prefix ∷ []) items more os are.1 fine.1 (subst (λ (v : List PlainPrefix). IsDistinct same_prefix v) (sym order) distinct)
      ∙ ap (λ (b : List PlainPrefix). once_from bytes b more) order)

  origins_there : (so_far : List Origin) (items more : List Item) (os : List Origin) → Pairs (IsOriginItem bytes net) items os
      → AllByRecursion FineOrigin os → origins_of bytes names so_far (items ++ more) ≡ origins_of bytes names (so_far ++ os) more
  origins_there so_far [] more [] are fine = ap (λ (b : List Origin). origins_of bytes names b more) (sym (append-nil so_far))
  origins_there so_far [] more (o ∷ os) are fine = absurd are
  origins_there so_far (i ∷ items) more [] are fine = absurd are
  origins_there so_far (i ∷ items) more (o ∷ os) are fine =
      let here = are.0 in
      rw (here.2, origin_there bytes net apart small here.0 here.1 o fine.0 here.3 here.4)
      (origins_there (so_far ++ o ∷ []) items more os are.1 fine.1 ∙ ap (λ (b : List Origin). origins_of bytes names b more) (append_assoc so_far (o ∷ []) os))

  no_origins : (so_far : List Origin) (items : List Item) (ss : List PlainStatement) → Pairs (IsStatementItem bytes net) items ss → origins_of bytes names so_far items ≡ Ok so_far
  no_origins so_far [] [] are = refl
  no_origins so_far [] (s ∷ ss) are = absurd are
  no_origins so_far (i ∷ items) [] are = absurd are
  no_origins so_far (i ∷ items) (s ∷ ss) are = rw are.0.1 (no_origins so_far items ss are.1)

  no_statements : (so_far : List PlainStatement) (items more : List Item) (os : List Origin) → Pairs (IsOriginItem bytes net) items os
      → statements_of bytes net names so_far (items ++ more) ≡ statements_of bytes net names so_far more
  no_statements so_far [] more [] are = refl
  no_statements so_far [] more (o ∷ os) are = absurd are
  no_statements so_far (i ∷ items) more [] are = absurd are
  no_statements so_far (i ∷ items) more (o ∷ os) are = rw are.0.2 (no_statements so_far items more os are.1)

  statements_there : (so_far : List PlainStatement) (items : List Item) (ss : List PlainStatement) → Pairs (IsStatementItem bytes net) items ss
      → AllByRecursion FineStatement ss → statements_of bytes net names so_far items ≡ Ok (so_far ++ ss)
  statements_there so_far [] [] are fine = ap Ok (sym (append-nil so_far))
  statements_there so_far [] (s ∷ ss) are fine = absurd are
  statements_there so_far (i ∷ items) [] are fine = absurd are
  statements_there so_far (i ∷ items) (s ∷ ss) are fine =
      rw (are.0.1, statement_there bytes net apart small are.0.0 s fine.0 are.0.2) (statements_there (so_far ++ s ∷ []) items ss are.1 fine.1 ∙ ap Ok (append_assoc so_far (s ∷ []) ss))

  -- how many of a kind the items of a policy have
  amounts : (k : Kind) (f : Origin → ℕ) (g : PlainStatement → ℕ) → ((i : Item) (o : Origin) → IsOriginItem bytes net i o → amount k i ≡ f o)
      → ((i : Item) (s : PlainStatement) → IsStatementItem bytes net i s → amount k i ≡ g s)
      → (items : List Item) (policy : PlainPolicy) → AreItems bytes net items policy → sum_by (amount k) items ≡ sum_by f policy.origins + sum_by g policy.statements
  amounts k f g origin statement items policy are =
      rw are.2 (omega (
        arith,
        sum_by-append (amount k) are.0 are.1,
        sum_pairs (IsOriginItem bytes net) (amount k) f origin are.0 policy.origins are.3,
        sum_pairs
            (IsStatementItem bytes net) (amount k) g statement are.1 policy.statements are.4,
      ))

  all_within : (items : List Item) → sum_by (amount kind.Definitions) items ≤ 256 → sum_by (amount kind.Statements) items ≤ 256
      → sum_by (amount kind.Patterns) items ≤ 16384 → sum_by (amount kind.Prefixes) items ≤ 4096 → items_within items ≡ Ok tt
  all_within items a b c d = rw (fits kind.Definitions 256 _ a, fits kind.Statements 256 _ b, fits kind.Patterns 16384 _ c) (fits kind.Prefixes 4096 _ d)

  module _ (policy : PlainPolicy) (limits : IsPolicy policy) (os : AllByRecursion FineOrigin policy.origins)
      (ss : AllByRecursion FineStatement policy.statements) (items : List Item) (are : AreItems bytes net items policy) where
    counts_fit : items_within items ≡ Ok tt
    counts_fit =
        let definitions = amounts kind.Definitions (λ o. 0) (λ s. 0) (λ i o is. rw is.2 refl) (λ i s is. rw is.1 refl) items policy are in
        let statements = amounts kind.Statements (λ o. 0) (λ s. 1) (λ i o is. rw is.2 refl) (λ i s is. rw is.1 refl) items policy are in
        let patterns =
        amounts kind.Patterns (λ o. 0) (λ (s : PlainStatement). length s.patterns) (λ i o is. rw is.2 refl)
        (λ i s is. rw is.1 (length-pairs (IsRawPattern bytes) is.0.patterns s.patterns is.2.patterns)) items policy are in
        let prefixes' = amounts kind.Prefixes (λ o. 1) (λ s. 0) (λ i o is. rw is.2 refl) (λ i s is. rw is.1 refl) items policy are in
        let none = sum_nothing policy.origins in
        let none' = sum_nothing policy.statements in
        all_within items (omega (arith, definitions, none, none')) (omega (arith, statements, none, sum_ones policy.statements, limits.statements))
        (omega (arith, patterns, none, limits.patterns)) (omega (arith, prefixes', none', sum_ones policy.origins, limits.prefixes))

    pub names_learnt : all_learnt bytes names items ≡ Ok names
    names_learnt =
        all_known bytes names items
        (all_items (λ i. learnt bytes names i ≡ Ok names)
        (λ i o is fine. rw is.2 (origin_learnt bytes net apart small is.0 is.1 o fine is.3 is.4))
        (λ i s is fine. rw is.1 (statement_learnt bytes net apart small is.0 s fine is.2)) items policy are os ss)

    figures : each (figures_fine bytes) items ≡ Ok tt
    figures =
        each_passes (figures_fine bytes) items
        (all_items (λ i. figures_fine bytes i ≡ Ok tt) (λ i o is fine. rw is.2 (origin_figures bytes net apart small is.0 is.1 o fine is.3 is.4))
        (λ i s is fine. rw is.1 (statement_figures bytes net apart small is.0 s fine is.2)) items policy are os ss)

    ranks : each ranks_fine items ≡ Ok tt
    ranks =
        each_passes ranks_fine items
        (all_items (λ i. ranks_fine i ≡ Ok tt) (λ i o is fine. rw is.2 refl) (λ i s is fine. rw is.1 (statement_ranks bytes net apart small is.0 s fine is.2)) items policy are os ss)

    routers : each (origins_fine bytes net names) items ≡ Ok tt
    routers =
        each_passes (origins_fine bytes net names) items
        (all_items (λ i. origins_fine bytes net names i ≡ Ok tt)
        (λ i o is fine. rw is.2 (origin_routers bytes net apart small is.0 is.1 o fine is.3 is.4))
        (λ i s is fine. rw is.1 refl) items policy are os ss)

    calls : each calls_within items ≡ Ok tt
    calls =
        each_passes calls_within items
        (all_items (λ i. calls_within i ≡ Ok tt) (λ i o is fine. rw is.2 refl) (λ i s is fine. rw is.1 (statement_calls bytes net apart small is.0 s fine is.2)) items policy are os ss)

    paths : each paths_within items ≡ Ok tt
    paths =
        each_passes paths_within items
        (all_items (λ i. paths_within i ≡ Ok tt) (λ i o is fine. rw is.2 refl) (λ i s is fine. rw is.1 (statement_paths bytes net apart small is.0 s fine is.2)) items policy are os ss)

    once : once_from bytes [] items ≡ Ok tt
    once = rw are.2 (once_origins [] are.0 are.1 policy.origins are.3 os limits.once ∙ once_statements (prefixes policy.origins) are.1 policy.statements are.4)

    origins : origins_of bytes names [] items ≡ Ok policy.origins
    origins = rw are.2 (origins_there [] are.0 are.1 policy.origins are.3 os ∙ no_origins policy.origins are.1 policy.statements are.4)

    statements : statements_of bytes net names [] items ≡ Ok policy.statements
    statements = rw are.2 (no_statements [] are.0 are.1 policy.origins are.3 ∙ statements_there [] are.1 policy.statements are.4 ss)

    pub keeps_rules : rules_kept bytes net names items ≡ Ok tt
    unfolding rules_kept
    keeps_rules = rw (figures, ranks, routers) once

    origins_fit : origins_spelled bytes names items ≡ Ok policy.origins
    unfolding origins_spelled
    origins_fit = rw (counts_fit, origins, fits kind.Origins 16384 (sum_by (λ (o : Origin). size_of o.at) policy.origins) limits.pairs) refl

    pub builds : policy_built bytes net names items ≡ Ok policy
    unfolding policy_built
    builds = rw (origins_fit, calls, paths, statements) refl
