use Rattle.std.proofs.Common.{◌≡◌, ◌≤◌, Option, Some, option_map, arith, rules, refl, sym, ap, inl}
use Rattle.std.specs.Option.{option_map_or}
use Rattle.std.specs.BTreeMap.{get_by_text}
use Rattle.std.proofs.lemmas.Map.Text.{btree_map_updates_text}
use Rattle.input_output.specs.declared.mem_inputs.Held.{Held}
use Rattle.input_output.proofs.Counts.{each_key, other_key}
use Rattle.input_output.proofs.mem_inputs.MemInputs.count_fault.Goals as goal

pub returns-in-Some-clause-holds : goal.returns-in-Some-clause-holds
returns-in-Some-clause-holds c = λ n.
    let w : Held = record { bytes = c.in-Some.held.now.bytes; faults = c.raised-held.result } in
    let P : Option Held → Option Held → Type 0 = λ x y. option_map (λ h. h.bytes.items) y ≡ option_map (λ h. h.bytes.items) x in
    rw (btree_map_updates_text c.args.name.now c.args.self.now.held (c.get_mut.follows.lender w) _ ((c.get_mut.follows.holds w).3 (search rules)) n)
    (each_key (get_by_text c.args.self.now.held) c.args.name.now n (Some c.in-Some.held.now) (Some w) P (sym c.in-Some.ensures.value) refl (λ x. refl))

pub returns-in-Some-clause-others : goal.returns-in-Some-clause-others
returns-in-Some-clause-others c = λ n apart.
    let w : Held = record { bytes = c.in-Some.held.now.bytes; faults = c.raised-held.result } in
    rw (btree_map_updates_text c.args.name.now c.args.self.now.held (c.get_mut.follows.lender w) _ ((c.get_mut.follows.holds w).3 (search rules)) n)
    (ap (λ o. option_map_or (λ (h : Held). h.faults) o c.args.self.now.shared) (other_key (get_by_text c.args.self.now.held) c.args.name.now n (Some w) (λ same. apart (inl same))))

pub returns-in-Some-clause-no_less : goal.returns-in-Some-clause-no_less
returns-in-Some-clause-no_less c = λ n.
    let w : Held = record { bytes = c.in-Some.held.now.bytes; faults = c.raised-held.result } in
    let P : Option Held → Option Held → Type 0 = λ x y. option_map_or (λ h. h.faults) x c.args.self.now.shared ≤ option_map_or (λ h. h.faults) y c.args.self.now.shared in
    rw (btree_map_updates_text c.args.name.now c.args.self.now.held (c.get_mut.follows.lender w) _ ((c.get_mut.follows.holds w).3 (search rules)) n)
    (each_key (get_by_text c.args.self.now.held) c.args.name.now n (Some c.in-Some.held.now) (Some w) P (sym c.in-Some.ensures.value) c.raised-held.ensures.no_less (λ x. omega arith))
