-- What is said of a text that breaks a rule.
use Rattle.std.specs.Prelude.{ℕ, List, ◌++◌, codes}
use Rattle.std.specs.Fmt.{decimal}
use Rattle.text_parts.specs.Telling.{Telling}
use Rattle.topology.specs.declared.fault.TopoFault.{TopoFault}
use Rattle.topology.specs.Faults as topology
use Rattle.policy_tokens.specs.declared.fault.PolicyFault.{PolicyFault}
use Rattle.policy_tokens.specs.Faults as policy
use Rattle.config_reader.specs.declared.fault.ConfigFault.{ConfigFault}
use Rattle.config_reader.specs.Faults as config
use Rattle.evidence_text.specs.declared.fault.EvidenceFault.{EvidenceFault}
use Rattle.evidence_text.specs.Faults as evidence
use Rattle.scenario_reader.specs.declared.fault.ScenarioFault.{ScenarioFault}
use Rattle.scenario_reader.specs.Faults as scenario
use Rattle.event_reader.specs.declared.fault.EventsFault.{EventsFault}
use Rattle.event_reader.specs.Faults as events
use Rattle.table_reader.specs.declared.fault.TablesFault.{TablesFault}
use Rattle.table_reader.specs.Faults as tables

-- the kind of text, the number of the rule, its word, and its values
unfoldable pub fault_line : {F : Type 0} → Telling F → List ℕ → F → List ℕ
fault_line told text f = codes "propane: " ++ text ++ codes " " ++ decimal (told.number_of f) ++ codes " " ++ told.word_of f ++ told.values_of f ++ codes "\n"

-- ---- of each kind of text

abbrev pub topology_line : TopoFault → List ℕ
topology_line = fault_line topology.told (codes "topology")

-- of one of several policies, by what it is called
abbrev pub named_policy_line : List ℕ → PolicyFault → List ℕ
named_policy_line words = fault_line policy.told words

abbrev pub policy_line : PolicyFault → List ℕ
policy_line = named_policy_line (codes "policy")

abbrev pub config_line : ConfigFault → List ℕ
config_line = fault_line config.told (codes "config")

abbrev pub evidence_line : EvidenceFault → List ℕ
evidence_line = fault_line evidence.told (codes "evidence")

abbrev pub scenario_line : ScenarioFault → List ℕ
scenario_line = fault_line scenario.told (codes "scenario")

abbrev pub events_line : EventsFault → List ℕ
events_line = fault_line events.told (codes "events")

abbrev pub tables_line : TablesFault → List ℕ
tables_line = fault_line tables.told (codes "tables")

-- a text of maps has the faults of a configuration's
abbrev pub maps_line : ConfigFault → List ℕ
maps_line = fault_line config.told (codes "maps")
