-- No rank of a printed expression is broken.
use Rattle.std.proofs.Common.{◌≡◌, ℕ, ◌≤◌, List, [], ◌∷◌, ◌++◌, length, None, Ok, refl, sym, ap, ◌∙◌, append_assoc, append-nil}
use Rattle.std.specs.List.{IsDistinct}
use Rattle.std.specs.Str.{bytes_eq}
use Rattle.net_base.specs.Network.{PlainNet, sites}
use Rattle.policy_grammar.specs.Raw.{RawStatement, Step, Step as step}
use Rattle.policy_grammar.specs.Raw.Item.{State}
use Rattle.policy_rules.specs.declared.ranks.Mark.{Mark}
use Rattle.policy_rules.specs.Ranks.{top, above_mark, or_mark, and_mark, not_mark, marks_of, broken_rank, ranks_fine}
use Rattle.policy_base.specs.Policies.{Ranking, call, calls, prefer, either, both, negated}
use Rattle.policy_text.specs.Printable.{HasNoRank}
use Rattle.policy_text.proofs.ReadRankings.{AreSteps}
use Rattle.policy_text.proofs.Lookups.{site_names}
use Rattle.policy_text.proofs.BuildRankings.{IsFine}

-- what the steps of an expression leave behind: no broken rank, and no rank at all where it has none
record IsMarked (r : Ranking) (ss : List Step) : Type 0 where
  mark : Mark
  is : (ms : List Mark) (more : List Step) → marks_of ms (ss ++ more) ≡ marks_of (mark ∷ ms) more
  broken : mark.broken ≡ None
  first : HasNoRank r → mark.first ≡ None

module _ (bytes : List ℕ) (net : PlainNet) (apart : IsDistinct bytes_eq (site_names (sites net))) (small : length (sites net) ≤ 768) where
  marked : (r : Ranking) → IsFine bytes net apart small r → (ss : List Step) → AreSteps bytes net r ss → IsMarked r ss
  marked (call c) fine ss is = record { mark = record { first = is.0.above; broken = None }; is = λ ms more. rw is.1 refl; broken = refl; first = λ none. is.2.1 }
  marked (calls []) fine ss is = absurd fine
  marked (calls (c ∷ cs)) fine ss is = record { mark = record { first = is.0.above; broken = None }; is = λ ms more. rw is.1 refl; broken = refl; first = λ none. absurd none }
  marked (prefer a b) fine ss is =
      let x = marked a fine.0 is.0 is.4 in
      let y = marked b fine.1 is.1 is.5 in
      record {
        mark = above_mark is.2 x.mark y.mark;
        is =
            λ ms more. rw (is.3, append_assoc (is.0 ++ is.1) (step.Above is.2 ∷ []) more, append_assoc is.0 is.1 (step.Above is.2 ∷ more))
            (x.is ms (is.1 ++ step.Above is.2 ∷ more) ∙ y.is (x.mark ∷ ms) (step.Above is.2 ∷ more));
        broken = rw (x.broken, y.broken) refl;
        first = λ none. absurd none;
      }
  marked (either a b) fine ss is =
      let x = marked a fine.0.0 is.0 is.3 in
      let y = marked b fine.0.1 is.1 is.4 in
      record {
        mark = or_mark x.mark y.mark;
        is = λ ms more. rw (is.2, append_assoc (is.0 ++ is.1) (step.Or ∷ []) more, append_assoc is.0 is.1 (step.Or ∷ more)) (x.is ms (is.1 ++ step.Or ∷ more) ∙ y.is (x.mark ∷ ms) (step.Or ∷ more));
        broken = rw (x.first fine.1.0, y.first fine.1.1) refl;
        first = λ none. rw (x.first none.0, y.first none.1) refl;
      }
  marked (both a b) fine ss is =
      let x = marked a fine.0 is.0 is.3 in
      let y = marked b fine.1 is.1 is.4 in
      record {
        mark = and_mark x.mark y.mark;
        is =
            λ ms more. rw (is.2, append_assoc (is.0 ++ is.1) (step.And ∷ []) more, append_assoc is.0 is.1 (step.And ∷ more))
            (x.is ms (is.1 ++ step.And ∷ more) ∙ y.is (x.mark ∷ ms) (step.And ∷ more));
        broken = rw (x.broken, y.broken) refl;
        first = λ none. rw (x.first none.0, y.first none.1) refl;
      }
  marked (negated a) fine ss is =
      let x = marked a fine.0 is.0 is.2 in
      record {
        mark = not_mark x.mark;
        is = λ ms more. rw (is.1, append_assoc is.0 (step.Not ∷ []) more) (x.is ms (step.Not ∷ more));
        broken = x.first fine.1;
        first = λ none. x.first none;
      }

  unbroken : (r : Ranking) → IsFine bytes net apart small r → (ss : List Step) → AreSteps bytes net r ss → broken_rank ss ≡ None
  unbroken r fine ss is = let x = marked r fine ss is in ap (λ (ms : List Mark). (top ms).broken) (ap (marks_of []) (sym (append-nil ss)) ∙ x.is [] []) ∙ x.broken

  -- no rank of a statement is broken
  pub ranks_kept : (s : RawStatement) (r : Ranking) → IsFine bytes net apart small r → AreSteps bytes net r s.ranked → ranks_fine (State s) ≡ Ok tt
  ranks_kept s r fine is = rw (unbroken r fine s.ranked is) refl
