-- The prefix of events that a text spells.
use Rattle.std.proofs.Common.{◌≡◌, ℕ, List, length, Ok, subst}
use Rattle.std.specs.Prelude.{nat_le}
use Rattle.std.specs.Result.{result_ok}
use Rattle.json_values.proofs.TextLaws.{says_read}
use Rattle.net_base.proofs.PrefixLemmas.{prefix_spelled-IsPrefix}
use Rattle.net_base.proofs.StepLemmas.{bind_ok, or_fault_result_ok}
use Rattle.event_reader.specs.declared.limits.TheConstants.{EVENTS}
use Rattle.net_base.specs.Network.{PlainNet}
use Rattle.net_base.specs.Prefixes.{IsPrefix}
use Rattle.net_base.specs.PrefixText.{prefix_spelled}
use Rattle.net_base.specs.Steps.{or_fault, unless, each_from}
use Rattle.location_names.specs.Names.{names_of}
use Rattle.event_reader.specs.declared.events.Events.{Events}
use Rattle.event_reader.specs.declared.fault.EventsFault.TheVariants.{NotJson, TooMany, BadPrefix}
use Rattle.event_reader.specs.Rules.{judged, placed}
use Rattle.event_reader.specs.Shape.{Said, shape_of}
use Rattle.event_reader.specs.Spelled.{spelled}

judged_prefix : (net : PlainNet) (said : Said) (es : Events) → judged net said ≡ Ok es → IsPrefix es.prefix
unfolding judged
judged_prefix net said es h =
    let few = bind_ok (unless (TooMany (length said.events)) (nat_le (length said.events) EVENTS)) _ es h in
    let events = bind_ok (each_from (placed (names_of net)) 1 said.events) _ es few.2 in
    let prefix = bind_ok (or_fault BadPrefix (result_ok (prefix_spelled said.prefix))) _ es events.2 in
    let made = prefix.2 in
    let same : prefix.0 ≡ es.prefix = cc in
    subst IsPrefix same (prefix_spelled-IsPrefix said.prefix prefix.0 (or_fault_result_ok BadPrefix (prefix_spelled said.prefix) prefix.0 prefix.1))

pub spelled_prefix : (net : PlainNet) (bytes : List ℕ) (es : Events) → spelled net bytes ≡ Ok es → IsPrefix es.prefix
unfolding spelled
spelled_prefix net bytes es h = let r = says_read NotJson shape_of (judged net) bytes es h in judged_prefix net r.0 es r.2
