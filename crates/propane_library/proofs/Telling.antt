-- What the bytes are that a run of `compile` has written, for the two texts.
use Rattle.std.proofs.Common.{◌≡◌, ℕ, List, [], ◌++◌, Option, Some, Ok, inl, inr, sym, ap, subst, ◌∙◌, arith}
use Rattle.net_base.specs.Network.{PlainNet}
use Rattle.input_output.specs.Outside.{Grew, Rose, next}
use Rattle.policy_base.specs.Policies.{PlainPolicy}
use Rattle.config_text.specs.Spelled.{Spells}
use Rattle.claim_law.specs.Claim.{IsKeptAtWork}
use Rattle.evidence_base.specs.Made.{PlainCaseEvidence}
use Rattle.policy_parser.specs.Spelled.{spelled as policy_spelled}
use Rattle.case_core.specs.declared.refusal.CompileRefusal.{CompileRefusal}
use Rattle.compile_core.proofs.OneRefusal.{not_refused, one_refusal}
use Rattle.propane_run.specs.declared.command.Command.{Command}
use Rattle.propane_run.specs.declared.command.Command.TheVariants.{Compile}
use Rattle.propane_run.specs.Asked.{AsksFor}
use Rattle.propane_run.specs.Clauses.{FaultFound}
use Rattle.compile_jobs.specs.Compiled.{IsCompiled, IsRefusedFor}
use Rattle.propane_run.specs.Headline.{CompilesRight}
use Rattle.run_base.specs.declared.outcome.Status.TheVariants.{Refused}
use Rattle.run_base.specs.Reading.{Holds}
use Rattle.refusal_lines.specs.RefusalLines.{refusal_line}
use Rattle.propane_run.specs.Promises.{Promised}
use Rattle.propane_run.specs.Refusing.{RefusesRight}
use Rattle.propane_run.specs.Words.{words_are}
use Rattle.propane_library.specs.Texts.{compile_words, topology_name, policy_name, Spell, IsRightText, IsRefusalLine, IsFaultLine}
use Rattle.propane_library.proofs.Asking.{spelled_by}

-- what grew has what was added at its end
pub grown : (old new bytes : List ℕ) → Grew (Some old) (Some new) bytes → new ≡ old ++ bytes
grown old new bytes grew = let e : Some new ≡ Some (old ++ bytes) = grew in cc

-- what grew from nothing is what was added
pub from_nothing : (old new bytes : List ℕ) → old ≡ [] → Grew (Some old) (Some new) bytes → bytes ≡ new
from_nothing old new bytes none grew =
    let e : Some new ≡ Some ([] ++ bytes) = rw none at grew in
    let same : new ≡ bytes = cc in
    sym same

-- a count that is 0 has not risen
pub still : (before now : ℕ) → before ≡ 0 → now ≡ before → Rose before now → ⊥
still before now none same rose =
    let next_is : now ≡ 1 = rose ∙ ap next none in
    let clash : 1 ≡ 0 = sym next_is ∙ same ∙ none in
    cc

-- the names that `compile` reads are the two
command_is : (c : Command) → words_are compile_words ≡ Some c → Compile ≡ c
command_is c is = let e : Some Compile ≡ Some c = is in cc

-- so what is told of the command that the words are is told of `compile`
of_compile : (words : List (List ℕ)) → words ≡ compile_words → (Told : Command → Type 0) (c : Command) → words_are words ≡ Some c → Told c → Told Compile
of_compile words is Told c asks told =
    let P : List (List ℕ) → Type 0 = λ ws. words_are ws ≡ Some c in
    subst Told (sym (command_is c (subst P is asks))) told

pub fault_of_compile : (holds : Holds) (words : List (List ℕ)) → words ≡ compile_words → (c : Command) → words_are words ≡ Some c → (l : List ℕ)
    → FaultFound holds words c l → FaultFound holds words Compile l
fault_of_compile holds words is c asks l found = of_compile words is (λ d. FaultFound holds words d l) c asks found

pub refusal_of_compile : {E : Type 0} (holds : Holds) (words : List (List ℕ)) → words ≡ compile_words → (taken : E → Option (List ℕ)) (err err' : E) (c : Command)
    → words_are words ≡ Some c → Promised holds taken words c Refused err err' → RefusesRight holds taken words Compile err err'
refusal_of_compile holds words is taken err err' c asks claim = of_compile words is (λ d. Promised holds taken words d Refused err err') c asks claim

module _ (words : List (List ℕ)) (is : words ≡ compile_words) (holds : Holds) (topology policy_text : List ℕ)
    (topology_is : holds topology_name ≡ Some topology) (policy_is : holds policy_name ≡ Some policy_text) where
  pub right_text : {O : Type 0} (taken : O → Option (List ℕ)) (out out' : O) (claim : CompilesRight holds taken words out out') (evidence : List PlainCaseEvidence)
      → IsCompiled claim.net claim.policy claim.config evidence → AsksFor holds words Compile claim.net claim.policy
      → Spells claim.bytes claim.config → IsKeptAtWork claim.net claim.policy claim.config → (text : List ℕ) → claim.bytes ≡ text → IsRightText topology policy_text text
  right_text taken out out' claim evidence compiled asks spells at_work text same = record {
    net = claim.net;
    policy = claim.policy;
    spell = spelled_by words is holds topology policy_text topology_is policy_is claim.net claim.policy asks;
    made = record { config = claim.config; evidence = evidence; compiled = compiled; keeps = claim.keeps; at_work = at_work };
    spelled = rw same at spells;
  }

  pub refusal_told : {E : Type 0} (taken : E → Option (List ℕ)) (err err' : E) (claim : RefusesRight holds taken words Compile err err') (line : List ℕ)
      → refusal_line claim.net claim.refusal ≡ line → IsRefusalLine topology policy_text line
  refusal_told taken err err' claim line same = record {
    net = claim.net;
    policy = claim.policy;
    spell = spelled_by words is holds topology policy_text topology_is policy_is claim.net claim.policy claim.asked;
    refusal = claim.refusal;
    applies = claim.refused;
    told = sym same;
  }

-- ---- where the texts spell a network and a policy

module _ (topology policy_text : List ℕ) (net : PlainNet) (policy : PlainPolicy) (spell : Spell topology policy_text net policy) where
  one_net : (other : PlainNet) (asked : PlainPolicy) → Spell topology policy_text other asked → other ≡ net
  one_net other asked also = let e = spell.net_spelled in let f = also.net_spelled in cc

  -- they spell no others
  pub along : (P : PlainNet → PlainPolicy → Type 0) (other : PlainNet) (asked : PlainPolicy) → Spell topology policy_text other asked → P other asked → P net policy
  along P other asked also h =
      let S : PlainNet → Type 0 = λ n. policy_spelled n policy_text ≡ Ok asked in
      let e = spell.policy_spelled in
      let f = subst S (one_net other asked also) also.policy_spelled in
      let same : asked ≡ policy = cc in
      let Q : PlainNet → Type 0 = λ n. P n asked in
      let R : PlainPolicy → Type 0 = λ p. P net p in
      subst R same (subst Q (one_net other asked also) h)

  -- no fault is told
  pub no_fault : (line : List ℕ) → IsFaultLine topology policy_text line → ⊥
  no_fault line (inl h) = omega (arith, h.0, spell.topology_within)
  no_fault line (inr (inl h)) = omega (arith, h.0, spell.policy_within)
  no_fault line (inr (inr (inl h))) = let e = h.1 in let f = spell.net_spelled in cc
  no_fault line (inr (inr (inr h))) =
      let e = h.2 in
      let f = spell.net_spelled in
      let same : net ≡ h.0 = cc in
      let S : PlainNet → Type 0 = λ n. policy_spelled n policy_text ≡ Ok policy in
      let p = subst S same spell.policy_spelled in
      let q = h.3 in
      cc

  module _ (e : CompileRefusal) (applies : IsRefusedFor net policy e) where
    -- no text is right
    pub no_text : (text : List ℕ) → IsRightText topology policy_text text → ⊥
    no_text text right =
        let P : PlainNet → PlainPolicy → Type 0 = λ n p. IsCompiled n p right.made.config right.made.evidence in
        let made = along P right.net right.policy right.spell right.made.compiled in
        applies.1 (not_refused net policy right.made.config right.made.evidence e made.0 applies.0)

    -- and this refusal is told
    only : (f : CompileRefusal) → IsRefusedFor net policy f → f ≡ e
    only f also = elim (one_refusal net policy f e also.0 applies.0) [
      | inl m ↦ absurd (also.1 m)
      | inr rest ↦ elim rest [ inl m ↦ absurd (applies.1 m) | inr same ↦ same ]
    ]

    pub that_refusal : (line : List ℕ) → IsRefusalLine topology policy_text line → line ≡ refusal_line net e
    that_refusal line told =
        let P : PlainNet → PlainPolicy → Type 0 = λ n p. IsRefusedFor n p told.refusal × (line ≡ refusal_line n told.refusal) in
        let h = along P told.net told.policy told.spell (told.applies, told.told) in
        h.1 ∙ ap (refusal_line net) (only told.refusal h.0)

  -- where no refusal applies, none is told
  pub no_refusal : ((e : CompileRefusal) → IsRefusedFor net policy e → ⊥) → (line : List ℕ) → IsRefusalLine topology policy_text line → ⊥
  no_refusal none line told =
      let P : PlainNet → PlainPolicy → Type 0 = λ n p. IsRefusedFor n p told.refusal in
      none told.refusal (along P told.net told.policy told.spell told.applies)
