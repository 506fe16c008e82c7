-- What a run of `compile` is asked about, whose names hold two texts.
use Rattle.std.proofs.Common.{◌≡◌, ℕ, ◌<◌, List, [], ◌∷◌, length, Some, Ok, inl, inr, refl, sym, ap, subst, ◌∙◌, IfSome}
use Rattle.std.specs.Prelude.{IsSome}
use Rattle.net_base.specs.Network.{PlainNet}
use Rattle.topology.specs.Topology.{spelled}
use Rattle.policy_base.specs.Policies.{PlainPolicy}
use Rattle.propane_run.specs.declared.command.Command.TheVariants.{Compile}
use Rattle.topology.proofs.Read.{networks_are_meant}
use Rattle.topology.proofs.Written.{network_is_spelled}
use Rattle.policy_law.proofs.Texts.{policies_are_meant, policy_is_spelled}
use Rattle.run_base.specs.declared.outcome.Status.TheVariants.{BadInput}
use Rattle.propane_run.specs.Asked.{AsksFor}
use Rattle.propane_run.specs.Clauses.{FaultFound, ReadsSmoothly}
use Rattle.run_base.specs.Reading.{Holds, IsHeld, AllHeld, most, too_long}
use Rattle.propane_run.specs.Run.{Job}
use Rattle.run_base.specs.Said.{Said, line}
use Rattle.input_texts.specs.Texts.{OfTexts, OfPolicyText}
use Rattle.propane_run.specs.Words.{words_are}
use Rattle.compile_jobs.specs.declared.written.Part.TheVariants.{Config}
use Rattle.compile_jobs.specs.Written.{SaysOfPart}
use Rattle.propane_library.specs.Texts.{compile_words, topology_name, policy_name, Spell, IsFaultLine}

-- the words are `compile`, with the two names
pub asked : (words : List (List ℕ)) → words ≡ compile_words → words_are words ≡ Some Compile
asked words is = rw is refl

-- where both names are told, and no count of theirs rises
smooth_words : (holds : Holds) → IsSome (holds topology_name) → IsSome (holds policy_name) → (rose : List ℕ → Type 0) → (rose topology_name → ⊥) → (rose policy_name → ⊥)
    → ReadsSmoothly holds rose compile_words Compile
smooth_words holds topology_told policy_told rose no_topology no_policy = record {
  is = refl;
  told = (topology_told, (policy_told, tt));
  reads = λ name among. elim among [
    | inl t ↦ λ r. no_topology (subst rose t r)
    | inr rest ↦ elim rest [
      | inl p ↦ λ r. no_policy (subst rose p r)
      | inr none ↦ absurd none
    ]
  ];
}

pub told_smoothly : (words : List (List ℕ)) → words ≡ compile_words → (holds : Holds) → IsSome (holds topology_name) → IsSome (holds policy_name)
    → (rose : List ℕ → Type 0) → (rose topology_name → ⊥) → (rose policy_name → ⊥) → ReadsSmoothly holds rose words Compile
told_smoothly words is holds topology_told policy_told rose no_topology no_policy =
    let P : List (List ℕ) → Type 0 = λ ws. ReadsSmoothly holds rose ws Compile in
    subst P (sym is) (smooth_words holds topology_told policy_told rose no_topology no_policy)

module _ (holds : Holds) (topology policy_text : List ℕ) (topology_is : holds topology_name ≡ Some topology) (policy_is : holds policy_name ≡ Some policy_text) where
  held_topology : (bytes : List ℕ) → IsHeld holds topology_name bytes → bytes ≡ topology
  held_topology bytes held = rw topology_is at held.told

  held_policy : (bytes : List ℕ) → IsHeld holds policy_name bytes → bytes ≡ policy_text
  held_policy bytes held = rw policy_is at held.told

  at_words : (net : PlainNet) (policy : PlainPolicy) → AsksFor holds compile_words Compile net policy → Spell topology policy_text net policy
  at_words net policy asks =
      let t : asks.topology ≡ topology = held_topology asks.topology asks.held.0 in
      let p : asks.policy_text ≡ policy_text = held_policy asks.policy_text asks.held.1.0 in
      record {
        topology_within = rw t at asks.held.0.within;
        policy_within = rw p at asks.held.1.0.within;
        net_spelled = rw t at (network_is_spelled asks.topology net asks.net_meant);
        policy_spelled = rw p at (policy_is_spelled net asks.policy_text policy asks.policy_meant);
      }

  of_words : (net : PlainNet) (policy : PlainPolicy) → Spell topology policy_text net policy → AsksFor holds compile_words Compile net policy
  of_words net policy spell = record {
    asked = refl;
    topology = topology;
    policy_text = policy_text;
    more = [];
    held = (record { told = rw topology_is refl; within = spell.topology_within }, (record { told = rw policy_is refl; within = spell.policy_within }, tt));
    net_meant = networks_are_meant topology net spell.net_spelled;
    policy_meant = policies_are_meant net policy_text policy spell.policy_spelled;
  }

  -- ---- what is wrong with the texts

  not_of_policy : (net : PlainNet) (policy : PlainPolicy) (l : List ℕ) → SaysOfPart Config net policy (line BadInput l) → ⊥
  not_of_policy net policy l (inl h) = let s = ap (λ (w : Said). w.status) h.5 in cc
  not_of_policy net policy l (inr h) = let s = ap (λ (w : Said). w.status) h.2 in cc

  policy_fault : (net : PlainNet) (l : List ℕ) → spelled topology ≡ Ok net → OfPolicyText (SaysOfPart Config) net policy_text (line BadInput l) → IsFaultLine topology policy_text l
  policy_fault net l net_is (inl h) = inr (inr (inr (net, h.0, net_is, h.1, ap (λ (w : Said). w.to_err) h.2)))
  policy_fault net l net_is (inr h) = absurd (not_of_policy net h.0 l h.2)

  texts_fault : (l : List ℕ) → OfTexts (SaysOfPart Config) topology policy_text (line BadInput l) → IsFaultLine topology policy_text l
  unfolding OfTexts
  texts_fault l (inl h) = inr (inr (inl (h.0, h.1, ap (λ (w : Said). w.to_err) h.2)))
  texts_fault l (inr h) = policy_fault h.0 l h.1 h.2

  job_fault : (l : List ℕ) (bs : List (List ℕ)) → AllHeld holds (topology_name ∷ policy_name ∷ []) bs → Job Compile bs (line BadInput l) → IsFaultLine topology policy_text l
  job_fault l [] held says = absurd says
  job_fault l (a ∷ []) held says = absurd says
  job_fault l (a ∷ b ∷ []) held says =
      let t : a ≡ topology = held_topology a held.0 in
      let p : b ≡ policy_text = held_policy b held.1.0 in
      let P : List ℕ → Type 0 = λ x. OfTexts (SaysOfPart Config) x b (line BadInput l) in
      let Q : List ℕ → Type 0 = λ x. OfTexts (SaysOfPart Config) topology x (line BadInput l) in
      texts_fault l (subst Q p (subst P t says))
  job_fault l (a ∷ b ∷ c ∷ bs) held says = absurd held.1.1

  too_long_topology : (name l : List ℕ) → name ≡ topology_name → IfSome (holds name) (λ held. most < length held) → l ≡ (too_long name).to_err → IsFaultLine topology policy_text l
  too_long_topology name l is over told =
      let P : List ℕ → Type 0 = λ n. IfSome (holds n) (λ held. most < length held) in
      let more : most < length topology = rw topology_is at (subst P is over) in
      inl (more, told ∙ ap (λ n. (too_long n).to_err) is)

  too_long_policy : (name l : List ℕ) → name ≡ policy_name → IfSome (holds name) (λ held. most < length held) → l ≡ (too_long name).to_err → IsFaultLine topology policy_text l
  too_long_policy name l is over told =
      let P : List ℕ → Type 0 = λ n. IfSome (holds n) (λ held. most < length held) in
      let more : most < length policy_text = rw policy_is at (subst P is over) in
      inr (inl (more, told ∙ ap (λ n. (too_long n).to_err) is))

  fault_words : (l : List ℕ) → FaultFound holds compile_words Compile l → IsFaultLine topology policy_text l
  fault_words l (inl h) = elim h.1 [
    | inl t ↦ too_long_topology h.0 l t h.2 h.3
    | inr rest ↦ elim rest [ inl p ↦ too_long_policy h.0 l p h.2 h.3 | inr none ↦ absurd none ]
  ]
  fault_words l (inr comes) = job_fault l comes.bytes comes.held comes.says

module _ (words : List (List ℕ)) (is : words ≡ compile_words) (holds : Holds) (topology policy_text : List ℕ)
    (topology_is : holds topology_name ≡ Some topology) (policy_is : holds policy_name ≡ Some policy_text) where
  pub spelled_by : (net : PlainNet) (policy : PlainPolicy) → AsksFor holds words Compile net policy → Spell topology policy_text net policy
  spelled_by net policy asks =
      let P : List (List ℕ) → Type 0 = λ ws. AsksFor holds ws Compile net policy in
      at_words holds topology policy_text topology_is policy_is net policy (subst P is asks)

  pub asks_for : (net : PlainNet) (policy : PlainPolicy) → Spell topology policy_text net policy → AsksFor holds words Compile net policy
  asks_for net policy spell =
      let P : List (List ℕ) → Type 0 = λ ws. AsksFor holds ws Compile net policy in
      subst P (sym is) (of_words holds topology policy_text topology_is policy_is net policy spell)

  pub reads_smoothly : (rose : List ℕ → Type 0) → (rose topology_name → ⊥) → (rose policy_name → ⊥) → ReadsSmoothly holds rose words Compile
  reads_smoothly rose no_topology no_policy = told_smoothly words is holds (rw topology_is refl) (rw policy_is refl) rose no_topology no_policy

  pub fault_told : (l : List ℕ) → FaultFound holds words Compile l → IsFaultLine topology policy_text l
  fault_told l found =
      let P : List (List ℕ) → Type 0 = λ ws. FaultFound holds ws Compile l in
      fault_words holds topology policy_text topology_is policy_is l (subst P is found)
