use Rattle.std.proofs.Common.{[], string_bytes, ap}
use Rattle.std.specs.Option.{option_map_or}
use Rattle.std.specs.BTreeMap.{get_by_text}
use Rattle.std.proofs.lemmas.Map.Text.{btree_map_updates_text}
use Rattle.input_output.proofs.Counts.{other_key}
use Rattle.input_output.proofs.sure_inputs.SureInputs.hold.Goals as goal

pub returns-clause-others : goal.returns-clause-others
returns-clause-others c = λ n apart.
    rw (btree_map_updates_text (string_bytes c.in_ok-key.key) c.args.self.now.held c.insert.new.self _ c.in_ok-insert.ensures.updates n, c.in_ok-key.ensures.ok)
    (ap (λ o. option_map_or (λ bytes. bytes.items) o []) (other_key (get_by_text c.args.self.now.held) c.args.name.now n _ apart))
