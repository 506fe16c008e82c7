-- Words that ask for what the texts under their names spell.
use Rattle.std.proofs.Common.{◌≡◌, ℕ, List, [], ◌∷◌, Some, Result, refl, subst}
use Rattle.std.specs.Prelude.{codes}
use Rattle.net_base.specs.Network.{PlainNet, IsNet}
use Rattle.policy_base.specs.Policies.{PlainPolicy, IsPolicyOf}
use Rattle.run_base.specs.Reading.{Holds, AllHeld}
use Rattle.topology.proofs.Read.{networks_are_meant}
use Rattle.topology.proofs.Written.{network_is_spelled}
use Rattle.topology_law.proofs.Topologies.{topologies_are_meant}
use Rattle.text_law.proofs.Policies.{read_policies_are_meant}
use Rattle.policy_law.proofs.Texts.{policies_are_meant, policy_is_spelled}
use Rattle.input_texts.specs.Asked.{SpellAlso, SpellFor}
use Rattle.input_texts.proofs.Asking.{net_of_spelled, policy_of_spelled}
use Rattle.config_base.specs.Configs.{PlainConfig}
use Rattle.evidence_base.specs.Made.{PlainCaseEvidence}
use Rattle.compile_jobs.specs.declared.written.Part.{Part}
use Rattle.judging_jobs.specs.Asked.{Audited, SpellAudit}
use Rattle.renewal_jobs.proofs.ReuseLaws.{SpellPair}
use Rattle.propane_run.specs.declared.command.Command.{Command}
use Rattle.propane_run.specs.declared.command.Command.TheVariants.{Compile, Evidence, Check, Explain, Impact, RouteMap, CheckMap, Lint, Audit, Migrate}
use Rattle.propane_run.specs.declared.command.Command.TheVariants.{Sample, Help, Version, Promises, Maps, Between, Renew, Reuse, Compare, Under, After}
use Rattle.propane_run.specs.Asked.{AsksAlso, AsksFor, AsksOfReuse, IsFor}
use Rattle.propane_run.specs.Auditing.{AsksAudit}
use Rattle.propane_run.specs.Headline.{NamesTexts}
use Rattle.propane_run.specs.Words.{names_read, words_are}
use Rattle.propane_run.proofs.Naming.{compile_words}

-- no names hold no texts
no_more : (holds : Holds) (more : List (List ℕ)) → AllHeld holds [] more → more ≡ []
no_more holds [] held = refl
no_more holds (b ∷ bs) held = absurd held

module _ (holds : Holds) (words : List (List ℕ)) where
  abbrev pub spells : (c : Command) (net : PlainNet) (policy : PlainPolicy) → AsksFor holds words c net policy → SpellFor holds (names_read words c) net policy
  spells c net policy asks =
      record {
        topology = asks.topology;
        policy_text = asks.policy_text;
        more = asks.more;
        held = asks.held;
        net_spelled = network_is_spelled
            asks.topology net asks.net_meant;
        policy_spelled = policy_is_spelled net asks.policy_text policy asks.policy_meant;
      }

  pub asked_by : (c : Command) (net : PlainNet) (policy : PlainPolicy) → IsFor holds words c net policy → words_are words ≡ Some c
  asked_by Compile net policy is = is.asked
  asked_by Evidence net policy is = is.asked
  asked_by Check net policy is = is.asked
  asked_by Explain net policy is = is.asked
  asked_by (Sample n) net policy is = is.asked
  asked_by Migrate net policy is = absurd is
  asked_by (Impact prefix) net policy is = is.asked
  asked_by RouteMap net policy is = is.asked
  asked_by CheckMap net policy is = absurd is
  asked_by Lint net policy is = is.asked
  asked_by Audit net policy is = is.asked
  asked_by (Help topic) net policy is = absurd is
  asked_by Version net policy is = absurd is
  asked_by Promises net policy is = is.asked
  asked_by Maps net policy is = absurd is
  asked_by (Between stage) net policy is = absurd is
  asked_by (Renew part) net policy is = is.1.asked.asked
  asked_by (Reuse part) net policy is = is.2.asked.asked
  asked_by Compare net policy is = is.1.asked.asked
  asked_by (Under outlook) net policy is = is.1.asked.asked
  asked_by (After course) net policy is = is.1.asked.asked

  -- what is asked for keeps the rules
  pub asked_rules : {c : Command} {net : PlainNet} {policy : PlainPolicy} → AsksFor holds words c net policy → IsNet net × IsPolicyOf net policy
  asked_rules {c} {net} {policy} asks = let spell = spells c net policy asks in (net_of_spelled spell, policy_of_spelled spell)

  abbrev pub asks_for : (c : Command) (net : PlainNet) (policy : PlainPolicy) → words_are words ≡ Some c → SpellFor holds (names_read words c) net policy → AsksFor holds words c net policy
  asks_for c net policy is spell =
      record {
        asked = is;
        topology = spell.topology;
        policy_text = spell.policy_text;
        more = spell.more;
        held = spell.held;
        net_meant = networks_are_meant
            spell.topology net spell.net_spelled;
        policy_meant = policies_are_meant net spell.policy_text policy spell.policy_spelled;
      }

  module _ (net : PlainNet) (policy : PlainPolicy) where
    -- the words are this one, and the names that the command reads
    pub names_texts : (c : Command) (word : List ℕ) (more : List (List ℕ)) → words ≡ word ∷ names_read words c → (spell : SpellFor holds (names_read words c) net policy) → spell.more ≡ more
        → NamesTexts holds word words net policy more
    names_texts c word more said spell is = record {
      names = names_read words c;
      said = said;
      topology = spell.topology;
      policy_text = spell.policy_text;
      held = subst (λ (m : List (List ℕ)). AllHeld holds (names_read words c) (spell.topology ∷ spell.policy_text ∷ m)) is spell.held;
      net_meant = topologies_are_meant spell.topology net (networks_are_meant spell.topology net spell.net_spelled);
      policy_meant = read_policies_are_meant net spell.policy_text policy spell.policy_spelled;
    }

    pub names_two : words_are words ≡ Some Compile → SpellFor holds (names_read words Compile) net policy → NamesTexts holds (codes "compile") words net policy []
    names_two asks spell = names_texts Compile (codes "compile") [] (compile_words words asks) spell (no_more holds spell.more spell.held.1.1)

  module _ {V F : Type 0} (spelled_by : PlainNet → List ℕ → Result V F) (c : Command) (net : PlainNet) (policy : PlainPolicy) where
    pub spells_also : (value : V) → AsksAlso spelled_by holds words c net policy value → SpellAlso spelled_by holds (names_read words c) net policy value
    spells_also value asks = record { spell = spells c net policy asks.asked; third = asks.third; more = asks.more; spelled = asks.spelled }

    pub asks_also : words_are words ≡ Some c → (value : V) → SpellAlso spelled_by holds (names_read words c) net policy value → AsksAlso spelled_by holds words c net policy value
    asks_also is value also = record { asked = asks_for c net policy is also.spell; third = also.third; more = also.more; spelled = also.spelled }

  module _ (net : PlainNet) (policy : PlainPolicy) where
    pub spells_audit : (audited : Audited) → AsksAudit holds words net policy audited → SpellAudit holds (names_read words Audit) net policy audited
    spells_audit audited asks = record {
      spell = spells Audit net policy asks.asked;
      config_text = asks.config_text;
      evidence_text = asks.evidence_text;
      scenario_text = asks.scenario_text;
      tables_text = asks.tables_text;
      more = asks.more;
      config_spelled = asks.config_spelled;
      evidence_spelled = asks.evidence_spelled;
      scenario_spelled = asks.scenario_spelled;
      tables_spelled = asks.tables_spelled;
    }

    pub asks_audit : words_are words ≡ Some Audit → (audited : Audited) → SpellAudit holds (names_read words Audit) net policy audited → AsksAudit holds words net policy audited
    asks_audit is audited spell = record {
      asked = asks_for Audit net policy is spell.spell;
      config_text = spell.config_text;
      evidence_text = spell.evidence_text;
      scenario_text = spell.scenario_text;
      tables_text = spell.tables_text;
      more = spell.more;
      config_spelled = spell.config_spelled;
      evidence_spelled = spell.evidence_spelled;
      scenario_spelled = spell.scenario_spelled;
      tables_spelled = spell.tables_spelled;
    }

  module _ (part : Part) (net : PlainNet) (policy : PlainPolicy) (old : PlainConfig) (olds : List PlainCaseEvidence) where
    pub spells_reuse : AsksOfReuse holds words part net policy old olds → SpellPair part holds (names_read words (Reuse part)) net policy old olds
    spells_reuse asks = record {
      spell = spells (Reuse part) net policy asks.asked;
      config_text = asks.config_text;
      evidence_text = asks.evidence_text;
      more = asks.more;
      config_spelled = asks.config_spelled;
      evidence_spelled = asks.evidence_spelled;
    }

    pub asks_reuse : words_are words ≡ Some (Reuse part) → SpellPair part holds (names_read words (Reuse part)) net policy old olds → AsksOfReuse holds words part net policy old olds
    asks_reuse is spell = record {
      asked = asks_for (Reuse part) net policy is spell.spell;
      config_text = spell.config_text;
      evidence_text = spell.evidence_text;
      more = spell.more;
      config_spelled = spell.config_spelled;
      evidence_spelled = spell.evidence_spelled;
    }
