-- Which network and which policy a run is asked about, under which scenario, and for which events.
use Rattle.std.specs.Prelude.{◌≡◌, ℕ, List, [], ◌∷◌, Some, Result, Ok}
use Rattle.net_base.specs.Network.{PlainNet}
use Rattle.policy_base.specs.Policies.{PlainPolicy}
use Rattle.topology.specs.Meaning.{IsTopologyOf}
use Rattle.policy_law.specs.Texts.{IsPolicyTextOf}
use Rattle.scenarios.specs.declared.scenario.Scenario.{Scenario}
use Rattle.scenario_reader.specs.Spelled.{spelled as scenario_spelled}
use Rattle.compile_jobs.specs.declared.written.Part.{Part}
use Rattle.config_base.specs.Configs.{PlainConfig}
use Rattle.config_reader.specs.Text.{spelled as config_spelled}
use Rattle.evidence_base.specs.Made.{PlainCaseEvidence}
use Rattle.evidence_text.specs.Spelled.{spelled as evidence_spelled}
use Rattle.event_reader.specs.declared.events.Events.{Events}
use Rattle.event_reader.specs.Spelled.{spelled as events_spelled}
use Rattle.sample_network.specs.Network.{sample_net}
use Rattle.sample_network.specs.SamplePolicy.{sample_policy}
use Rattle.propane_run.specs.declared.command.Command.{Command}
use Rattle.propane_run.specs.declared.command.Command.TheVariants.{Compile, Evidence, Check, Explain, Impact, RouteMap, CheckMap, Lint, Audit, Migrate}
use Rattle.propane_run.specs.declared.command.Command.TheVariants.{Sample, Help, Version, Promises, Maps, Between, Renew, Reuse, Compare, Under, After}
use Rattle.propane_run.specs.Words.{words_are, names_read}
use Rattle.run_base.specs.Reading.{Holds, AllHeld}

-- The words are this command, and the bytes of the first two names that it reads mean this network and this policy for it.
pub record AsksFor (holds : Holds) (words : List (List ℕ)) (c : Command) (net : PlainNet) (policy : PlainPolicy) : Type 0 where
  pub asked : words_are words ≡ Some c
  pub topology : List ℕ
  pub policy_text : List ℕ
  pub more : List (List ℕ)
  pub held : AllHeld holds (names_read words c) (topology ∷ policy_text ∷ more)
  pub net_meant : IsTopologyOf topology net
  pub policy_meant : IsPolicyTextOf net policy_text policy

-- The words are this command, and the bytes of the third and last name that it reads spell this value for the network, too.
pub record AsksAlso {V F : Type 0} (spelled_by : PlainNet → List ℕ → Result V F) (holds : Holds) (words : List (List ℕ)) (c : Command)
    (net : PlainNet) (policy : PlainPolicy) (value : V) : Type 0 where
  pub asked : AsksFor holds words c net policy
  pub third : List ℕ
  pub more : asked.more ≡ third ∷ []
  pub spelled : spelled_by net third ≡ Ok value

-- a scenario
abbrev pub AsksUnder : Holds → List (List ℕ) → Command → PlainNet → PlainPolicy → Scenario → Type 0
AsksUnder = AsksAlso scenario_spelled

-- or events
abbrev pub AsksOfEvents : Holds → List (List ℕ) → Command → PlainNet → PlainPolicy → Events → Type 0
AsksOfEvents = AsksAlso events_spelled

-- or an old configuration, which may be of any network
abbrev pub AsksOfRenewal : Holds → List (List ℕ) → Part → PlainNet → PlainPolicy → PlainConfig → Type 0
AsksOfRenewal holds words part = AsksAlso (λ (net : PlainNet). config_spelled) holds words (Renew part)

-- The words are this command, and the bytes of the last two names that it reads spell an old configuration and evidence, too.
pub record AsksOfReuse (holds : Holds) (words : List (List ℕ)) (part : Part) (net : PlainNet) (policy : PlainPolicy) (old : PlainConfig)
    (evidence : List PlainCaseEvidence) : Type 0 where
  pub asked : AsksFor holds words (Reuse part) net policy
  pub config_text : List ℕ
  pub evidence_text : List ℕ
  pub more : asked.more ≡ config_text ∷ evidence_text ∷ []
  pub config_spelled : config_spelled config_text ≡ Ok old
  pub evidence_spelled : evidence_spelled evidence_text ≡ Ok evidence

-- The words are `compare`, and the bytes of the three names that it reads mean this network, an old policy for it and a new one.
pub record AsksCompare (holds : Holds) (words : List (List ℕ)) (net : PlainNet) (old new : PlainPolicy) : Type 0 where
  pub asked : AsksFor holds words Compare net old
  pub new_text : List ℕ
  pub more : asked.more ≡ new_text ∷ []
  pub new_meant : IsPolicyTextOf net new_text new

-- The words are `sample` with this number, and these are its network and its policy.
pub record IsSampled (words : List (List ℕ)) (n : ℕ) (net : PlainNet) (policy : PlainPolicy) : Type 0 where
  pub asked : words_are words ≡ Some (Sample n)
  pub net_is : net ≡ sample_net n
  pub policy_is : policy ≡ sample_policy n

-- The network and the policy of a command that has both: those that its inputs spell, or those of the sample of its number. Where a
-- scenario is read, too, or events, or an old configuration and its evidence, the inputs spell them.
abbrev pub IsFor : Holds → List (List ℕ) → Command → PlainNet → PlainPolicy → Type 0
IsFor holds words Compile net policy = AsksFor holds words Compile net policy
IsFor holds words Evidence net policy = AsksFor holds words Evidence net policy
IsFor holds words Check net policy = AsksFor holds words Check net policy
IsFor holds words Explain net policy = AsksFor holds words Explain net policy
IsFor holds words (Sample n) net policy = IsSampled words n net policy
IsFor holds words Migrate net policy = ⊥
IsFor holds words (Impact prefix) net policy = AsksFor holds words (Impact prefix) net policy
IsFor holds words RouteMap net policy = AsksFor holds words RouteMap net policy
IsFor holds words CheckMap net policy = ⊥
IsFor holds words Lint net policy = AsksFor holds words Lint net policy
IsFor holds words Audit net policy = AsksFor holds words Audit net policy
IsFor holds words (Help topic) net policy = ⊥
IsFor holds words Version net policy = ⊥
IsFor holds words Promises net policy = AsksFor holds words Promises net policy
IsFor holds words Maps net policy = ⊥
IsFor holds words (Between stage) net policy = ⊥
IsFor holds words (Renew part) net policy = (old : PlainConfig) × AsksOfRenewal holds words part net policy old
IsFor holds words (Reuse part) net policy = (old : PlainConfig) × (evidence : List PlainCaseEvidence) × AsksOfReuse holds words part net policy old evidence
IsFor holds words Compare net policy = (new : PlainPolicy) × AsksCompare holds words net policy new
IsFor holds words (Under outlook) net policy = (scenario : Scenario) × AsksUnder holds words (Under outlook) net policy scenario
IsFor holds words (After course) net policy = (events : Events) × AsksOfEvents holds words (After course) net policy events
