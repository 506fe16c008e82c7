-- The mark of an expression: its first `>>`, and the first under an `or` or a `not`.
use Rattle.std.proofs.Common.{◌≡◌, List, [], ◌∷◌, ◌++◌, Option, Some, None, refl, ap, sym, ◌∙◌, append_assoc, append-nil}
use Rattle.net_base.specs.declared.place.Place.{Place}
use Rattle.policy_tokens.specs.declared.fault.PolicyFault.TheVariants.{RankUnder}
use Rattle.policy_grammar.specs.Raw.{Arg, Item as item, RawPattern, Step, Step as step}
use Rattle.policy_rules.specs.declared.ranks.Mark.{Mark}
use Rattle.policy_rules.specs.Ranks.{earlier, top, marks_of, broken_rank, ranks_fine}
use Rattle.policy_law.specs.Told.{first, told}
use Rattle.policy_law.specs.Trees.{Expression, call, above, either, both, negated, Written, define, originate, state, postfix, item_of}
use Rattle.policy_law.specs.Ranks.{place_of, ranks, ranks_under, ranks_under_in}

first_of_place : (o : Option Place) → o ≡ first (place_of o)
first_of_place (Some p) = refl
first_of_place None = refl

first_append : (xs ys : List Place) → earlier (first xs) (first ys) ≡ first (xs ++ ys)
first_append [] ys = refl
first_append (x ∷ xs) ys = refl

first_more : (xs : List Place) (p : Place) (ys : List Place) → earlier (first xs) (Some p) ≡ first (xs ++ p ∷ ys)
first_more [] p ys = refl
first_more (x ∷ xs) p ys = refl

mark : List Place → List Place → Mark
mark all under = record { first = first all; broken = first under }

same_mark : (a b c d : Option Place) → a ≡ b → c ≡ d → (let m : Mark = record { first = a; broken = c } in m) ≡ record { first = b; broken = d }
same_mark a b c d p q = rw (p, q) refl

-- a step behind two sides
pub two_sides : (a b : List Step) (s : Step) (rest : List Step) → (a ++ b ++ s ∷ []) ++ rest ≡ a ++ (b ++ s ∷ rest)
two_sides a b s rest = append_assoc (a ++ b) (s ∷ []) rest ∙ append_assoc a b (s ∷ rest)

marks_behind_expression : (e : Expression) (ms : List Mark) (rest : List Step) → marks_of ms (postfix e ++ rest) ≡ marks_of (mark (ranks e) (ranks_under e) ∷ ms) rest
unfolding mark
marks_behind_expression (call c) ms rest = ap (λ (o : Option Place). marks_of (record { first = o; broken = None } ∷ ms) rest) (first_of_place c.above)
marks_behind_expression (above a p b) ms rest =
    ap (marks_of ms) (two_sides (postfix a) (postfix b) (step.Above p) rest)
    ∙ marks_behind_expression a ms (postfix b ++ step.Above p ∷ rest)
    ∙ marks_behind_expression b (mark (ranks a) (ranks_under a) ∷ ms) (step.Above p ∷ rest)
    ∙ ap (λ (m : Mark). marks_of (m ∷ ms) rest) (same_mark _ _ _ _ (first_more (ranks a) p (ranks b)) (first_append (ranks_under a) (ranks_under b)))
marks_behind_expression (either a b) ms rest =
    ap (marks_of ms) (two_sides (postfix a) (postfix b) step.Or rest)
    ∙ marks_behind_expression a ms (postfix b ++ step.Or ∷ rest)
    ∙ marks_behind_expression b (mark (ranks a) (ranks_under a) ∷ ms) (step.Or ∷ rest)
    ∙ ap (λ (m : Mark). marks_of (m ∷ ms) rest) (same_mark _ _ _ _ (first_append (ranks a) (ranks b)) (first_append (ranks a) (ranks b)))
marks_behind_expression (both a b) ms rest =
    ap (marks_of ms) (two_sides (postfix a) (postfix b) step.And rest)
    ∙ marks_behind_expression a ms (postfix b ++ step.And ∷ rest)
    ∙ marks_behind_expression b (mark (ranks a) (ranks_under a) ∷ ms) (step.And ∷ rest)
    ∙ ap (λ (m : Mark). marks_of (m ∷ ms) rest) (same_mark _ _ _ _ (first_append (ranks a) (ranks b)) (first_append (ranks_under a) (ranks_under b)))
marks_behind_expression (negated a) ms rest =
    ap (marks_of ms) (append_assoc (postfix a) (step.Not ∷ []) rest)
    ∙ marks_behind_expression a ms (step.Not ∷ rest)

pub first_rank_told : (e : Expression) → broken_rank (postfix e) ≡ first (ranks_under e)
unfolding mark
first_rank_told e = ap (λ (steps : List Step). broken_rank steps) (sym (append-nil (postfix e))) ∙ ap (λ (ms : List Mark). (top ms).broken) (marks_behind_expression e [] [])

fine_where : (steps : List Step) (patterns : List RawPattern) (from : Arg) (ps : List Place) → broken_rank steps ≡ first ps
    → ranks_fine (item.State (record { patterns = patterns; ranked = steps; from = from })) ≡ told RankUnder ps
fine_where steps patterns from [] h = rw h refl
fine_where steps patterns from (p ∷ ps) h = rw h refl

pub ranks_told : (x : Written) → ranks_fine (item_of x) ≡ told RankUnder (ranks_under_in x)
ranks_told (define name members) = refl
ranks_told (originate prefix names) = refl
ranks_told (state patterns e from) = fine_where (postfix e) patterns from (ranks_under e) (first_rank_told e)
