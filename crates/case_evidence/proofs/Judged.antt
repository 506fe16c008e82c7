-- What numbers on the graph of a case say of the case.
use Rattle.std.proofs.Common.{◌≡◌, ℕ, ◌<◌, Bool, true, not, List, [], length, inl, inr, refl, sym, ◌∙◌}
use Rattle.std.specs.Prelude.{◌↔◌}
use Rattle.std.proofs.lemmas.Bool.{and_parts, not-true, true≢false}
use Rattle.net_base.specs.Network.{PlainNet}
use Rattle.net_base.specs.Sets.{holds}
use Rattle.policy_base.specs.declared.case.Case.{Case}
use Rattle.policy_base.specs.Policies.{PlainStatement}
use Rattle.graph_base.specs.Graphs.{PlainGraph, IsGraph}
use Rattle.graph_base.specs.Rules.{MeetsRules}
use Rattle.relation_law.specs.Rounds.{gone_after, is_pair, left_after}
use Rattle.relation_law.specs.Views.{View, view_of}
use Rattle.relation_law.proofs.Bridge.{rules_give_numbers}
use Rattle.relation_law.specs.Choosing.{IsRefutationOf}
use Rattle.quotient_law.specs.Alike.{EndBoth}
use Rattle.quotient_law.proofs.Carried.{total_there}
use Rattle.quotient_law.proofs.Claims.{rules_claimed}
use Rattle.quotient_law.proofs.Tied.{are_alike}
use Rattle.graph_base.specs.declared.refutation.Refutation.{Refutation}
use Rattle.graph_base.specs.Refuting.{Refutes}
use Rattle.state_simulation.specs.Held.{HasEach, IsRelationOf, PlainRelation, has}
use Rattle.state_simulation.proofs.Holding.{total_where_each}
use Rattle.net_base.specs.declared.loc.LocSet.{LocSet}
use Rattle.preference_numbers.specs.Inferred as found
use Rattle.evidence_law.specs.Faithful.{IsFaithful}
use Rattle.evidence_law.specs.Passes.{IsClaimed}
use Rattle.case_core.specs.declared.refusal.CompileRefusal.TheVariants.{NoEvidence}
use Rattle.evidence_law.proofs.Listeners.{listeners_ranked}
use Rattle.graph_law.proofs.Claimed.{claimed_where_ranked}
use Rattle.case_evidence.specs.declared.accepted.AcceptedCase.{AcceptedCase}
use Rattle.case_evidence.proofs.Joined.{given_fits}
use Rattle.graph_base.specs.Preferences.{number_in}
use Rattle.case_evidence.specs.Accepted.{HasNoNumbers, IsAccepted, IsCaseCause, IsGivenGraph, IsNumbered}
use Rattle.graph_base.specs.Ranked.{IsRankedRouter}

-- a pair that is left hasn't gone
gone_or_left : (v : View) (reach : ℕ → ℕ → Bool) (rounds m n : ℕ) → left_after v reach rounds m n ≡ true → gone_after v reach rounds m n ≡ true → ⊥
gone_or_left v reach rounds m n kept gone = true≢false (sym gone ∙ not-true _ (and_parts (is_pair v m n) (not (gone_after v reach rounds m n)) kept).1)

module _ (net : PlainNet) (s : PlainStatement) (c : Case) (g : PlainGraph) (graph_rules : IsGraph g) (faithful : IsFaithful net s (holds c.origins) c.external g) where
  module _ (claimed : LocSet) (ranked : (l : ℕ) → (holds claimed l ≡ true) ↔ IsRankedRouter net g l) where
    claims : (l : ℕ) → (holds claimed l ≡ true) ↔ IsClaimed net s c l
    claims l = (λ h. (claimed_where_ranked net s c g graph_rules faithful l).0 ((ranked l).0 h), λ h. (ranked l).1 ((claimed_where_ranked net s c g graph_rules faithful l).1 h))

  -- where a pair has gone in both directions, no numbers meet the rules on a graph of the case, since they would keep one
  pub no_numbers : (claimed : LocSet) → ((l : ℕ) → (holds claimed l ≡ true) ↔ IsRankedRouter net g l) → (r : Refutation) → IsRefutationOf g claimed r → HasNoNumbers net s c
  no_numbers claimed ranked r is other number other_rules also rules =
      let claims = claims claimed ranked in
      let held : MeetsRules net (λ l. holds claimed l ≡ true) c.external other number = rules_claimed net (IsClaimed net s c)
      (λ l. holds claimed l ≡ true) c.external other number (λ l h. (claims l).0 h) rules in
      let numbers = rules_give_numbers net (holds c.origins) c.external other also.formed other_rules claimed (λ l h. ((claims l).0 h).at_router)
      (listeners_ranked net s (holds c.origins) c.external other other_rules also) number held in
      let v = view_of g claimed in
      let open_pair = is.chosen.pair.is_open in
      let alike = are_alike net s (holds c.origins) c.external other g other_rules graph_rules also faithful claimed in
      elim (total_there (view_of other claimed) v (EndBoth other g) alike is.reach is.exact number numbers is.chosen.round r.first r.second open_pair.pair) [
        | inl kept ↦ gone_or_left v is.reach is.chosen.round r.first r.second kept open_pair.later.0
        | inr kept ↦ gone_or_left v is.reach is.chosen.round r.second r.first kept open_pair.later.1
      ]

  module _ (r : PlainRelation) (is : IsRelationOf g r) (ranked : (l : ℕ) → (holds r.claimed l ≡ true) ↔ IsRankedRouter net g l) where
    -- where it is, the numbers are those of the case
    pub are_numbers : (numbers : List ℕ) → HasEach r → length numbers ≡ length g.nodes → ((n : ℕ) → n < length g.nodes → number_in numbers n ≡ found.inferred net g r n) → IsNumbered net s c g numbers
    are_numbers numbers each size counts = record {
      claimed = r.claimed;
      claims = claims r.claimed ranked;
      relation = has r;
      greatest = is.greatest;
      total = total_where_each g r is each;
      size = size;
      counts = counts;
    }

    pub numbers_meet : (numbers : List ℕ) → MeetsRules net (λ l. holds r.claimed l ≡ true) c.external g (number_in numbers) → MeetsRules net (IsClaimed net s c) c.external g (number_in numbers)
    numbers_meet numbers rules =
        rules_claimed net (λ l. holds r.claimed l ≡ true) (IsClaimed net s c) c.external g (number_in numbers) (λ l h. (claims r.claimed ranked l).1 h)
        rules

-- ---- of a graph that is given

module _ (net : PlainNet) (room : ℕ) (s : PlainStatement) (c : Case) (given : AcceptedCase) (is : IsGivenGraph net room s c given.graph given.used)
    (r : PlainRelation) (relation : IsRelationOf given.graph r)
    (ranked : (l : ℕ) → (holds r.claimed l ≡ true) ↔ IsRankedRouter net given.graph l) where
  pub is_accepted : HasEach r → length given.prefs.of ≡ length given.graph.nodes → ((n : ℕ) → n < length given.graph.nodes → number_in given.prefs.of n ≡ found.inferred net given.graph r n)
      → ((external : Bool) → MeetsRules net (λ l. holds r.claimed l ≡ true) external given.graph (number_in given.prefs.of)) → IsAccepted net room s c given
  is_accepted each size counts rules =
      let fits = given_fits net room s c given.graph given.used is [] [] in
      record {
        graph = is;
        numbers = are_numbers net s c given.graph fits.graph fits.faithful r relation ranked given.prefs.of each size counts;
        rules = numbers_meet net s c given.graph fits.graph fits.faithful r relation ranked given.prefs.of (rules c.external);
      }

pub is_refused : (net : PlainNet) (number room : ℕ) (s : PlainStatement) (c : Case) (g : PlainGraph) (used : ℕ) → IsGivenGraph net room s c g used
    → (claimed : LocSet) → ((l : ℕ) → (holds claimed l ≡ true) ↔ IsRankedRouter net g l) → (r : Refutation) → IsRefutationOf g claimed r → Refutes g (holds claimed) r.first r.second r.lines
    → IsCaseCause net number room s c (NoEvidence number g r)
is_refused net number room s c g used is claimed ranked r chosen refutes =
    let fits = given_fits net room s c g used is [] [] in (
      refl,
      (used, is),
      record { claimed = claimed; claims = claims net s c g fits.graph fits.faithful claimed ranked; chosen = chosen; refutes = refutes },
      no_numbers net s c g fits.graph fits.faithful claimed ranked r chosen,
    )
