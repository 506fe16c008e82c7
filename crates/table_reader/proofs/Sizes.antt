-- Tables that are read have an entry for each router.
use Rattle.std.proofs.Common.{◌≡◌, ℕ, List, length, Option, Ok, sym, ap, ◌∙◌}
use Rattle.std.specs.Prelude.{◌==◌}
use Rattle.std.proofs.lemmas.Bool.{eqb-true}
use Rattle.json_values.specs.Json.{json_of}
use Rattle.json_values.proofs.EachStep.{each_from-length}
use Rattle.net_base.proofs.StepLemmas.{bind_ok, ok_same, unless_ok}
use Rattle.net_base.specs.Network.{PlainNet}
use Rattle.net_base.specs.Steps.{each_from, or_fault, unless}
use Rattle.location_names.specs.Names.{names_of}
use Rattle.config_base.specs.declared.route.Route.{Route}
use Rattle.table_reader.specs.declared.fault.TablesFault.TheVariants.{Count, NotJson}
use Rattle.table_reader.specs.Rules.{at_holders, held_by, judged}
use Rattle.table_reader.specs.Shape.{Said, shape_of}
use Rattle.table_reader.specs.Spelled.{spelled}

pub judged_size : (net : PlainNet) (said : List (Option Said)) (routes : List (Option Route)) → judged net said ≡ Ok routes → length routes ≡ length net.routers
unfolding judged
judged_size net said routes h =
    let count = bind_ok (unless (Count (length said)) (length said == length net.routers)) _ routes h in
    let held = bind_ok (each_from (held_by (names_of net)) 1 said) _ routes count.2 in
    let begin = bind_ok (at_holders 0 held.0) _ routes held.2 in
    ap length (sym (ok_same held.0 routes begin.2)) ∙ each_from-length (held_by (names_of net)) 1 said held.0 held.1
    ∙ eqb-true (length said) (length net.routers) (unless_ok (Count (length said)) (length said == length net.routers) count.0 count.1)

pub spelled_size : (net : PlainNet) (bytes : List ℕ) (routes : List (Option Route)) → spelled net bytes ≡ Ok routes → length routes ≡ length net.routers
unfolding spelled
spelled_size net bytes routes h =
    let value = bind_ok (or_fault NotJson (json_of bytes)) _ routes h in
    let said = bind_ok (shape_of value.0) _ routes value.2 in
    judged_size net said.0 routes said.2
