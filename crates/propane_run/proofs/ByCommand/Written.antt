-- What a run of `compile` has written: a configuration that is right; and one of `evidence`: evidence that passes with it.
use Rattle.std.proofs.Common.{◌≡◌, ℕ, List, Option, Ok, inl, inr, sym, subst, ◌∙◌}
use Rattle.net_base.specs.Network.{PlainNet}
use Rattle.policy_base.specs.Policies.{PlainPolicy}
use Rattle.claim_law.specs.Claim.{IsKeptAtWork}
use Rattle.claim_law.proofs.Claim.{passing_evidence_keeps_policy, passing_evidence_keeps_it_at_work}
use Rattle.text_law.proofs.Configurations.{spellings_are_texts}
use Rattle.config_text.specs.Spelled.{Spells}
use Rattle.evidence_base.specs.Made.{PlainCaseEvidence}
use Rattle.policy_parser.specs.Spelled.{spelled as policy_spelled}
use Rattle.evidence_law.specs.Passes.{Passes}
use Rattle.topology.specs.Topology.{spelled}
use Rattle.compile_core.proofs.OneRefusal.{one_pair}
use Rattle.run_base.specs.Reading.{Holds}
use Rattle.run_base.specs.Said.{text, Whole}
use Rattle.run_base.proofs.Jobs.{status_is, out_is}
use Rattle.input_texts.specs.Asked.{SpellFor}
use Rattle.input_texts.specs.Texts.{Alone, OfTexts}
use Rattle.input_texts.proofs.Asking.{alone, net_of_spelled, policy_of_spelled, said_for}
use Rattle.input_texts.proofs.Spelling.{at_spelled, of_spelled}
use Rattle.compile_jobs.specs.declared.written.Part.TheVariants as part
use Rattle.compile_jobs.specs.Compiled.{IsCompiled}
use Rattle.compile_jobs.specs.Written.{SaysOfPart}
use Rattle.propane_run.specs.declared.command.Command.TheVariants.{Compile, Evidence}
use Rattle.propane_run.specs.Asked.{AsksFor}
use Rattle.propane_run.specs.Headline.{CompilesRight, GivesEvidence}
use Rattle.propane_run.specs.Pairs.{ArePair}
use Rattle.propane_run.specs.Run.{Comes}
use Rattle.propane_run.specs.Words.{names_read}
use Rattle.propane_run.proofs.Asking.{asks_for, names_two}
use Rattle.propane_run.proofs.Compilation.{compilation}

module _ {S : Type 0} (holds : Holds) (words : List (List ℕ)) (taken : S → Option (List ℕ)) (before now : S) (b : List ℕ) (written : Whole taken b before now) where
  -- the claim, the evidence that passes, and what the texts spell
  abbrev pub Claimed : Type 0
  Claimed =
      (claim : CompilesRight holds taken words before now) × (evidence : List PlainCaseEvidence) × IsCompiled claim.net claim.policy claim.config evidence
      × AsksFor holds words Compile claim.net claim.policy × Spells claim.bytes claim.config × IsKeptAtWork claim.net claim.policy claim.config

  claim_of : Comes holds words Compile (text b) → (net : PlainNet) (policy : PlainPolicy) → SpellFor holds (names_read words Compile) net policy → SaysOfPart part.Config net policy (text b) → Claimed
  claim_of comes net policy spell (inr h) = absurd (let s = status_is _ _ h.2 in cc)
  claim_of comes net policy spell (inl h) = (
    record {
      net = net;
      policy = policy;
      asked = names_two holds words net policy comes.is spell;
      bytes = h.2;
      written = rw (out_is _ _ h.5) at written;
      config = h.0;
      text = spellings_are_texts h.2 h.0 h.4;
      keeps = passing_evidence_keeps_policy net policy h.0 h.1 (net_of_spelled spell) (policy_of_spelled spell) h.3.1;
    },
    h.1,
    h.3,
    asks_for holds words Compile net policy comes.is spell,
    h.4,
    passing_evidence_keeps_it_at_work net policy h.0 h.1 (net_of_spelled spell) (policy_of_spelled spell) h.3.1,
  )

  pub compiled : Comes holds words Compile (text b) → Claimed
  compiled comes =
      let f = said_for (Alone (SaysOfPart part.Config)) holds (names_read words Compile) (text b) (λ x. cc) comes.bytes comes.held comes.says in
      claim_of comes f.net f.policy f.spell (alone (SaysOfPart part.Config) f.spell.more f.net f.policy (text b) f.says)

  given_of : Comes holds words Evidence (text b) → (net : PlainNet) (policy : PlainPolicy) → SpellFor holds (names_read words Evidence) net policy
      → SaysOfPart part.Evidence net policy (text b) → GivesEvidence holds taken words before now
  given_of comes net policy spell (inr h) = absurd (let s = status_is _ _ h.2 in cc)
  given_of comes net policy spell (inl h) = record {
    net = net;
    policy = policy;
    asked = asks_for holds words Evidence net policy comes.is spell;
    made = compilation net policy h.0 h.1 (net_of_spelled spell) (policy_of_spelled spell) h.3;
    written = rw (out_is _ _ h.5 ∙ h.4) at written;
  }

  pub given : Comes holds words Evidence (text b) → GivesEvidence holds taken words before now
  given comes =
      let f = said_for (Alone (SaysOfPart part.Evidence)) holds (names_read words Evidence) (text b) (λ x. cc) comes.bytes comes.held comes.says in
      given_of comes f.net f.policy f.spell (alone (SaysOfPart part.Evidence) f.spell.more f.net f.policy (text b) f.says)

-- ---- both, of the same texts

pair_of : (topology policy_text : List ℕ) (net : PlainNet) (policy : PlainPolicy) (c e : List ℕ) → spelled topology ≡ Ok net → policy_spelled net policy_text ≡ Ok policy
    → SaysOfPart part.Config net policy (text c) → SaysOfPart part.Evidence net policy (text e) → ArePair topology policy_text c e
pair_of topology policy_text net policy c e net_is policy_is (inr h) said = absurd (let s = status_is _ _ h.2 in cc)
pair_of topology policy_text net policy c e net_is policy_is (inl a) (inr h) = absurd (let s = status_is _ _ h.2 in cc)
pair_of topology policy_text net policy c e net_is policy_is (inl a) (inl b) =
    let same = one_pair net policy a.0 b.0 a.1 b.1 a.3.0 b.3.0 in
    record {
      net = net;
      policy = policy;
      net_spelled = net_is;
      policy_spelled = policy_is;
      config = a.0;
      config_spelled = rw (sym (out_is _ _ a.5)) at a.4;
      evidence = b.1;
      evidence_is = out_is _ _ b.5 ∙ b.4;
      passes = subst (Passes net policy a.0) same.0 a.3.1;
    }

pub pair : (topology policy_text c e : List ℕ) → OfTexts (SaysOfPart part.Config) topology policy_text (text c)
    → OfTexts (SaysOfPart part.Evidence) topology policy_text (text e) → ArePair topology policy_text c e
pair topology policy_text c e one other =
    let f = of_spelled (SaysOfPart part.Config) topology policy_text (text c) (λ x. cc) one in
    let g = at_spelled (SaysOfPart part.Evidence) topology policy_text f.net f.policy (text e) f.net_spelled f.policy_spelled other in
    pair_of topology policy_text f.net f.policy c e f.net_spelled f.policy_spelled f.says g
