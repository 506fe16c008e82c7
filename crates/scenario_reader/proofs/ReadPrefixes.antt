-- The prefix of each scenario that a text spells.
use Rattle.std.proofs.Common.{◌≡◌, ℕ, List, Ok, subst}
use Rattle.std.specs.Result.{result_ok}
use Rattle.json_values.proofs.TextLaws.{says_read}
use Rattle.net_base.proofs.PrefixLemmas.{prefix_spelled-IsPrefix}
use Rattle.net_base.proofs.StepLemmas.{bind_ok, or_fault_result_ok}
use Rattle.net_base.specs.Network.{PlainNet}
use Rattle.net_base.specs.Prefixes.{IsPrefix}
use Rattle.net_base.specs.PrefixText.{prefix_spelled}
use Rattle.net_base.specs.Steps.{or_fault}
use Rattle.location_names.specs.Names.{names_of}
use Rattle.scenario_reader.specs.declared.parts.Field.TheVariants as field
use Rattle.scenarios.specs.declared.scenario.Scenario.{Scenario}
use Rattle.scenario_reader.specs.declared.fault.ScenarioFault.TheVariants.{NotJson, BadPrefix}
use Rattle.scenario_reader.specs.Rules.{judged, located, both_located, links_known, sessions_known}
use Rattle.scenario_reader.specs.Shape.{Said, each, shape_of}
use Rattle.scenario_reader.specs.Spelled.{spelled}

judged_prefix : (net : PlainNet) (said : Said) (s : Scenario) → judged net said ≡ Ok s → IsPrefix s.prefix
unfolding judged
judged_prefix net said s h =
    let dead = bind_ok (each (located (names_of net) field.Dead) said.dead) _ s h in
    let links = bind_ok (each (both_located (names_of net) field.DeadLinks) said.dead_links) _ s dead.2 in
    let pairs = bind_ok (each (both_located (names_of net) field.Silent) said.silent) _ s links.2 in
    let known = bind_ok (links_known net links.0) _ s pairs.2 in
    let heard = bind_ok (sessions_known net pairs.0) _ s known.2 in
    let prefix = bind_ok (or_fault BadPrefix (result_ok (prefix_spelled said.prefix))) _ s heard.2 in
    let made = prefix.2 in
    let same : prefix.0 ≡ s.prefix = cc in
    subst IsPrefix same (prefix_spelled-IsPrefix said.prefix prefix.0 (or_fault_result_ok BadPrefix (prefix_spelled said.prefix) prefix.0 prefix.1))

pub spelled_prefix : (net : PlainNet) (bytes : List ℕ) (s : Scenario) → spelled net bytes ≡ Ok s → IsPrefix s.prefix
unfolding spelled
spelled_prefix net bytes s h = let r = says_read NotJson shape_of (judged net) bytes s h in judged_prefix net r.0 s r.2
