-- A case is accepted in one way or refused, and it is refused for one cause.
use Rattle.std.proofs.Common.{◌≡◌, ℕ, ◌<◌, List, [], length, Bool, true, arith, sym, ap, ap₂, subst, ◌∙◌, inl, inr}
use Rattle.std.specs.Prelude.{◌↔◌, ◌⊎◌}
use Rattle.std.specs.Cmp.{both_ways}
use Rattle.std.proofs.lemmas.Grind.{same_number_lists}
use Rattle.std.proofs.lemmas.Option.{unwrap_or-slice_get}
use Rattle.net_base.specs.Network.{PlainNet}
use Rattle.net_base.specs.Sets.{holds}
use Rattle.policy_base.specs.declared.case.Case.{Case}
use Rattle.policy_base.specs.Policies.{PlainStatement}
use Rattle.graph_base.specs.declared.refutation.Refutation.{Refutation}
use Rattle.graph_base.specs.Graphs.{IsGraph, PlainGraph}
use Rattle.graph_base.specs.Refuting.{HasSingleSteps}
use Rattle.graph_base.specs.Runs.{place_of}
use Rattle.net_base.specs.declared.loc.LocSet.{LocSet}
use Rattle.relation_law.specs.Choosing.{IsRefutation}
use Rattle.relation_law.proofs.OneRefutation.{refutation_is_one}
use Rattle.graph_base.proofs.WellFormed.{one_step}
use Rattle.relation_law.specs.Rounds.{IsReach}
use Rattle.relation_law.specs.Evidence.{at_routers}
use Rattle.relation_law.specs.Numbers.{number_of}
use Rattle.relation_law.specs.Relations.{IsGreatest}
use Rattle.relation_law.specs.Views.{view_of, view_with}
use Rattle.relation_law.proofs.Counts.{one_greatest}
use Rattle.case_core.specs.declared.refusal.CompileRefusal.{CompileRefusal}
use Rattle.case_core.specs.declared.refusal.CompileRefusal.TheVariants.{TooManyRanks, TooManyStates, TooManySteps, SourceWithoutPath, MixedSource, NoEvidence, NoMemory}
use Rattle.case_core.specs.Refusals.{IsCause}
use Rattle.evidence_law.specs.Passes.{IsClaimed}
use Rattle.case_core.proofs.OneCause as graphs
use Rattle.case_evidence.specs.declared.accepted.AcceptedCase.{AcceptedCase}
use Rattle.case_evidence.proofs.Joined.{given_fits, one_given}
use Rattle.graph_base.specs.Preferences.{number_in}
use Rattle.case_evidence.specs.Accepted.{HasNoNumbers, IsAccepted, IsCaseCause, IsGivenGraph, IsNumbered, IsRefuted}

-- two sets of the claimed routers have the same members
same_claims : (net : PlainNet) (s : PlainStatement) (c : Case) (a b : LocSet) → ((l : ℕ) → (holds a l ≡ true) ↔ IsClaimed net s c l)
    → ((l : ℕ) → (holds b l ≡ true) ↔ IsClaimed net s c l) → (l : ℕ) → holds a l ≡ holds b l
same_claims net s c a b of_a of_b l = both_ways (holds a l) (holds b l) (λ h. (of_b l).1 ((of_a l).0 h)) (λ h. (of_a l).1 ((of_b l).0 h))

-- the numbers of a graph for the claimed routers are one list
one_list : (net : PlainNet) (s : PlainStatement) (c : Case) (g : PlainGraph) (xs ys : List ℕ) → IsNumbered net s c g xs → IsNumbered net s c g ys → xs ≡ ys
one_list net s c g xs ys a b =
    let claimed : (l : ℕ) → holds a.claimed l ≡ holds b.claimed l = same_claims net s c a.claimed b.claimed a.claims b.claims in
    let greatest : IsGreatest (view_of g b.claimed) a.relation = subst (λ (test : ℕ → Bool). IsGreatest (view_with g test) a.relation) (λ i l. claimed l i) a.greatest in
    let related : (m n : ℕ) → a.relation m n ≡ b.relation m n = one_greatest (view_of g b.claimed) a.relation b.relation greatest b.greatest in
    same_number_lists xs ys (a.size ∙ sym b.size)
    (λ n below.
    let inside : n < length g.nodes = omega (arith, below, a.size) in
    sym (unwrap_or-slice_get xs n 0)
    ∙ a.counts n inside
    ∙ ap (λ (r : ℕ → ℕ → Bool). at_routers net g (number_of (length g.nodes) r) n) (λ i m k. related m k i)
    ∙ sym (b.counts n inside)
    ∙ unwrap_or-slice_get ys n 0)

module _ (net : PlainNet) (room : ℕ) (s : PlainStatement) (c : Case) where
  pub one_accepted : (given other : AcceptedCase) → IsAccepted net room s c given → IsAccepted net room s c other → given ≡ other
  one_accepted given other a b =
      let same = one_given net room s c given.graph other.graph given.used other.used a.graph b.graph in
      let numbers = one_list net s c other.graph given.prefs.of other.prefs.of (subst (λ (g : PlainGraph). IsNumbered net s c g given.prefs.of) same.0 a.numbers) b.numbers in
      λ i. record { graph = same.0 i; used = same.1 i; prefs = record { of = numbers i } }

-- one refutation of a graph for the claimed routers
one_refutation : (net : PlainNet) (s : PlainStatement) (c : Case) (g : PlainGraph) (p q : Refutation) → IsGraph g → HasSingleSteps g → IsRefuted net s c g p → IsRefuted net s c g q → p ≡ q
one_refutation net s c g p q ok single a b =
    let claimed : (l : ℕ) → holds a.claimed l ≡ holds b.claimed l = same_claims net s c a.claimed b.claimed a.claims b.claims in
    let exact : IsReach (view_of g b.claimed) a.chosen.reach = subst (λ (test : ℕ → Bool). IsReach (view_with g test) a.chosen.reach) (λ i l. claimed l i) a.chosen.exact in
    let chosen : IsRefutation (view_of g b.claimed) a.chosen.reach p.first p.second p.lines =
    subst (λ (test : ℕ → Bool). IsRefutation (view_with g test) a.chosen.reach p.first p.second p.lines) (λ i l. claimed l i) a.chosen.chosen in
    let same = refutation_is_one g b.claimed ok single a.chosen.reach b.chosen.reach exact b.chosen.exact p.first p.second q.first q.second p.lines q.lines chosen b.chosen.chosen in
    let router : p.router ≡ q.router = a.chosen.place ∙ ap (place_of g) same.0 ∙ sym b.chosen.place in
    λ i. record { router = router i; first = same.0 i; second = same.1 i; lines = same.2 i }

-- the refusal says that no numbers meet the rules, and shows it on the graph that is given
pub record IsOfNumbers (net : PlainNet) (number room : ℕ) (s : PlainStatement) (c : Case) (e : CompileRefusal) : Type 0 where
  pub graph : PlainGraph
  pub used : ℕ
  pub refutation : Refutation
  pub is : e ≡ NoEvidence number graph refutation
  pub given : IsGivenGraph net room s c graph used
  pub refuted : IsRefuted net s c graph refutation
  pub none : HasNoNumbers net s c

module _ (net : PlainNet) (number room : ℕ) (s : PlainStatement) (c : Case) where
  -- a case is refused for its graph or for its numbers
  kinds : (e : CompileRefusal) → IsCaseCause net number room s c e → IsCause net number room s c e ⊎ IsOfNumbers net number room s c e
  kinds (TooManyRanks k n) h = inl h
  kinds (TooManyStates k) h = inl h
  kinds (TooManySteps k) h = inl h
  kinds (SourceWithoutPath k r) h = inl h
  kinds (MixedSource k r v w) h = inl h
  kinds (NoEvidence k g r) h = inr (record { graph = g; used = h.1.0; refutation = r; is = ap (λ n. NoEvidence n g r) h.0; given = h.1.1; refuted = h.2; none = h.3 })
  kinds NoMemory h = inl h

  -- the graph of a case isn't refused where it is given
  given_not_refused : (g : PlainGraph) (used : ℕ) (e : CompileRefusal) → IsGivenGraph net room s c g used → IsCause net number room s c e → e ≡ NoMemory
  given_not_refused g used e is cause = graphs.not_refused net number room s c (record { graph = is.trimmed; used = used }) e is.graph is.paths is.unmixed cause

  one_graph : (g h : PlainGraph) (m n : ℕ) → IsGivenGraph net room s c g m → IsGivenGraph net room s c h n → g ≡ h
  one_graph g h m n a b = (one_given net room s c g h m n a b).0

  same_evidence : (g h : PlainGraph) (m n : ℕ) (p q : Refutation) → IsGivenGraph net room s c g m → IsGivenGraph net room s c h n → IsRefuted net s c g p → IsRefuted net s c h q
      → NoEvidence number g p ≡ NoEvidence number h q
  same_evidence g h m n p q a b one other =
      let same = one_graph g h m n a b in
      let fits = given_fits net room s c h n b [] [] in
      let single = one_step net (holds c.origins) c.external h fits.faithful.formed in
      ap₂ (NoEvidence number) same (one_refutation net s c h p q fits.graph single (subst (λ x. IsRefuted net s c x p) same one) other)

  pub not_refused : (given : AcceptedCase) (e : CompileRefusal) → IsAccepted net room s c given → IsCaseCause net number room s c e → e ≡ NoMemory
  not_refused given e is cause = elim (kinds e cause) [
    | inl of_graph ↦ given_not_refused given.graph given.used e is.graph of_graph
    | inr of_numbers ↦ let fits = given_fits net room s c given.graph given.used is.graph [] [] in absurd (of_numbers.none given.graph (number_in given.prefs.of) fits.graph fits.faithful is.rules)
  ]

  pub one_cause : (e f : CompileRefusal) → IsCaseCause net number room s c e → IsCaseCause net number room s c f → (e ≡ NoMemory) ⊎ (f ≡ NoMemory) ⊎ (e ≡ f)
  one_cause e f a b = elim (kinds e a) [
    | inl of_graph ↦ elim (kinds f b) [
      | inl other ↦ graphs.one_cause net number room s c e f of_graph other
      | inr other ↦ inl (given_not_refused other.graph other.used e other.given of_graph)
    ]
    | inr of_numbers ↦ elim (kinds f b) [
      | inl other ↦ inr (inl (given_not_refused of_numbers.graph of_numbers.used f of_numbers.given other))
      | inr other ↦
          inr (inr (of_numbers.is
          ∙ same_evidence of_numbers.graph other.graph of_numbers.used other.used of_numbers.refutation other.refutation of_numbers.given
          other.given of_numbers.refuted other.refuted ∙ sym other.is))
    ]
  ]
