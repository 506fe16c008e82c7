-- What reading the texts of a run comes to.
use Rattle.std.specs.Prelude.{◌≡◌, ◌≢◌, ◌⊎◌, ℕ, List, [], ◌∷◌, Option, Result, Ok, Err}
use Rattle.net_base.specs.Network.{PlainNet}
use Rattle.topology.specs.declared.fault.TopoFault.{TopoFault}
use Rattle.topology.specs.Topology.{spelled}
use Rattle.policy_base.specs.Policies.{PlainPolicy, PolicyLists, policy_of}
use Rattle.policy_tokens.specs.declared.fault.PolicyFault.{PolicyFault}
use Rattle.policy_parser.specs.Spelled.{spelled as policy_spelled}
use Rattle.config_base.specs.Configs.{PlainConfig}
use Rattle.config_base.specs.declared.route.Route.{Route}
use Rattle.config_reader.specs.declared.fault.ConfigFault.{ConfigFault}
use Rattle.config_reader.specs.Text.{spelled as config_spelled}
use Rattle.evidence_base.specs.Made.{PlainCaseEvidence}
use Rattle.evidence_base.specs.declared.evidence.Evidence.{Evidence}
use Rattle.evidence_text.specs.declared.fault.EvidenceFault.{EvidenceFault}
use Rattle.evidence_text.specs.Spelled.{spelled as evidence_spelled}
use Rattle.scenarios.specs.declared.scenario.Scenario.{Scenario}
use Rattle.scenario_reader.specs.declared.fault.ScenarioFault.{ScenarioFault}
use Rattle.scenario_reader.specs.Spelled.{spelled as scenario_spelled}
use Rattle.scenarios.specs.declared.outcome.Outcome.{Outcome}
use Rattle.event_reader.specs.declared.events.Events.{Events}
use Rattle.event_reader.specs.declared.fault.EventsFault.{EventsFault}
use Rattle.table_reader.specs.declared.fault.TablesFault.{TablesFault}
use Rattle.table_reader.specs.Spelled.{spelled as tables_spelled}
use Rattle.route_maps.specs.Maps.{PlainMaps}
use Rattle.text_parts.specs.Telling.{Telling}
use Rattle.run_base.specs.declared.outcome.Stop.{Stop}
use Rattle.run_base.specs.declared.outcome.Status.TheVariants.{BadInput}
use Rattle.run_base.specs.Said.{Said, stop_said, no_memory, line}
use Rattle.input_texts.specs.FaultLines.{fault_line, topology_line, named_policy_line, policy_line, config_line, evidence_line, scenario_line, events_line, tables_line, maps_line}

-- ---- one text

-- The fault of a text is said, or that memory ran out.
abbrev pub TellsFault : {X F : Type 0} → Telling F → List ℕ → Result X F → Stop → Type 0
TellsFault {X} {F} told text read s =
    (stop_said s ≡ no_memory)
    ⊎ ((f : F) × (read ≡ Err f) × (f ≢ told.no_memory) × (stop_said s ≡ line BadInput (fault_line told text f)))

-- What was read, by its view; or the fault of the text is said, or that memory ran out.
abbrev pub IsReadOr : {X Y F : Type 0} → (X → Y) → (F → List ℕ) → Result Y F → Result X Stop → Type 0
IsReadOr {X} {Y} {F} view line_of read (Ok x) = read ≡ Ok (view x)
IsReadOr {X} {Y} {F} view line_of read (Err s) = (stop_said s ≡ no_memory) ⊎ ((f : F) × (read ≡ Err f) × (stop_said s ≡ line BadInput (line_of f)))

abbrev pub IsNetOr : Result PlainNet TopoFault → Result PlainNet Stop → Type 0
IsNetOr = IsReadOr (λ net. net) topology_line

abbrev pub IsNamedPolicyOr : List ℕ → Result PlainPolicy PolicyFault → Result PolicyLists Stop → Type 0
IsNamedPolicyOr words = IsReadOr policy_of (named_policy_line words)

abbrev pub IsPolicyOr : Result PlainPolicy PolicyFault → Result PolicyLists Stop → Type 0
IsPolicyOr = IsReadOr policy_of policy_line

abbrev pub IsConfigOr : Result PlainConfig ConfigFault → Result PlainConfig Stop → Type 0
IsConfigOr = IsReadOr (λ config. config) config_line

abbrev pub IsEvidenceOr : Result (List PlainCaseEvidence) EvidenceFault → Result Evidence Stop → Type 0
IsEvidenceOr = IsReadOr (λ (evidence : Evidence). evidence.cases) evidence_line

abbrev pub IsScenarioOr : Result Scenario ScenarioFault → Result Scenario Stop → Type 0
IsScenarioOr = IsReadOr (λ scenario. scenario) scenario_line

abbrev pub IsEventsOr : Result Events EventsFault → Result Events Stop → Type 0
IsEventsOr = IsReadOr (λ events. events) events_line

abbrev pub IsTablesOr : Result (List (Option Route)) TablesFault → Result Outcome Stop → Type 0
IsTablesOr = IsReadOr (λ (outcome : Outcome). outcome.routes) tables_line

abbrev pub IsMapsOr : Result PlainMaps ConfigFault → Result PlainMaps Stop → Type 0
IsMapsOr = IsReadOr (λ maps. maps) maps_line

-- the line of the fault of a text, or what follows from what it spells
abbrev pub OfRead : {Y F : Type 0} → (F → List ℕ) → Result Y F → (Y → Said → Type 0) → Said → Type 0
OfRead {Y} {F} line_of read Next what =
    ((fault : F) × (read ≡ Err fault) × (what ≡ line BadInput (line_of fault)))
    ⊎ ((y : Y) × (read ≡ Ok y) × Next y what)

-- ---- several

-- the policy for a network
abbrev pub OfPolicyText : (PlainNet → PlainPolicy → Said → Type 0) → PlainNet → List ℕ → Said → Type 0
OfPolicyText Next net policy_text = OfRead policy_line (policy_spelled net policy_text) (Next net)

-- no text stands behind these
abbrev pub Alone : (PlainNet → PlainPolicy → Said → Type 0) → List (List ℕ) → PlainNet → PlainPolicy → Said → Type 0
Alone Next [] = Next
Alone Next _ = λ net policy what. ⊥

-- The topology is read, and then the policy for its network. What is wrong first is said, or what follows from both.
unfoldable pub OfTexts : (PlainNet → PlainPolicy → Said → Type 0) → List ℕ → List ℕ → Said → Type 0
OfTexts Next topology policy_text what = OfRead topology_line (spelled topology) (λ net. OfPolicyText Next net policy_text) what

-- the same of a list of texts, where what follows may depend on those after the first two
abbrev pub OfAllTexts : (List (List ℕ) → PlainNet → PlainPolicy → Said → Type 0) → List (List ℕ) → Said → Type 0
OfAllTexts Next (topology ∷ policy_text ∷ more) what = OfTexts (Next more) topology policy_text what
OfAllTexts Next _ what = ⊥

-- where there is none after the first two
abbrev pub OfTwoTexts : (PlainNet → PlainPolicy → Said → Type 0) → List (List ℕ) → Said → Type 0
OfTwoTexts Next = OfAllTexts (Alone Next)

-- the evidence for a configuration
abbrev pub OfEvidenceText : (PlainConfig → List PlainCaseEvidence → Said → Type 0) → PlainConfig → List ℕ → Said → Type 0
OfEvidenceText Next config evidence_text = OfRead evidence_line (evidence_spelled evidence_text) (Next config)

-- The configuration is read, and then its evidence.
unfoldable pub OfPairTexts : (PlainConfig → List PlainCaseEvidence → Said → Type 0) → List ℕ → List ℕ → Said → Type 0
OfPairTexts Next config_text evidence_text what = OfRead config_line (config_spelled config_text) (λ config. OfEvidenceText Next config evidence_text) what

-- The scenario for a network is read.
abbrev pub OfScenarioText : (Scenario → Said → Type 0) → PlainNet → List ℕ → Said → Type 0
OfScenarioText Next net scenario_text = OfRead scenario_line (scenario_spelled net scenario_text) Next

-- The tables for a network are read.
abbrev pub OfTablesText : (List (Option Route) → Said → Type 0) → PlainNet → List ℕ → Said → Type 0
OfTablesText Next net tables_text = OfRead tables_line (tables_spelled net tables_text) Next
