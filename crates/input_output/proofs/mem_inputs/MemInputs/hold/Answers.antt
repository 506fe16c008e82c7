use Rattle.std.proofs.Common.{◌≡◌, Option, option_map, string_bytes, refl, ap}
use Rattle.std.specs.Option.{option_map_or}
use Rattle.std.specs.BTreeMap.{get_by_text}
use Rattle.std.proofs.lemmas.Map.Text.{btree_map_updates_text}
use Rattle.input_output.specs.declared.mem_inputs.Held.{Held}
use Rattle.input_output.proofs.Counts.{each_key, other_key}
use Rattle.input_output.proofs.mem_inputs.MemInputs.hold.Goals as goal

pub returns-clause-others : goal.returns-clause-others
returns-clause-others c = λ n apart.
    rw (btree_map_updates_text (string_bytes c.in_ok-key.key) c.args.self.now.held c.insert.new.self _ c.in_ok-insert.ensures.updates n, c.in_ok-key.ensures.ok)
    (ap (option_map (λ (h : Held). h.bytes.items)) (other_key (get_by_text c.args.self.now.held) c.args.name.now n _ apart))

pub returns-clause-counts : goal.returns-clause-counts
returns-clause-counts c = λ n.
    let P : Option Held → Option Held → Type 0 = λ x y. option_map_or (λ h. h.faults) y c.args.self.now.shared ≡ option_map_or (λ h. h.faults) x c.args.self.now.shared in
    rw (btree_map_updates_text (string_bytes c.in_ok-key.key) c.args.self.now.held c.insert.new.self _ c.in_ok-insert.ensures.updates n, c.in_ok-key.ensures.ok)
    (each_key (get_by_text c.args.self.now.held) c.args.name.now n _ _ P refl c.faults_of-faults.ensures (λ x. refl))
