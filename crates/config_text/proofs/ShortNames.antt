-- A name has at most 32 bytes.
use Rattle.std.proofs.Common.{ℕ, ◌≤◌, List, length, leb-true}
use Rattle.std.specs.Prelude.{◌&&◌, ◌==◌, nat_le, not, slice_index, IsTrue}
use Rattle.std.specs.List.{list_all}
use Rattle.std.proofs.lemmas.Bool.{and_parts}
use Rattle.net_base.specs.NameRule.{is_name, is_name_byte, is_letter}

pub length_name : (name : List ℕ) → IsTrue (is_name name) → length name ≤ 32
unfolding is_name
length_name name is =
    let spelled = and_parts (not (length name == 0) && nat_le (length name) 32 && is_letter (slice_index name 0) && list_all is_name_byte name) _ is in
    let lettered = and_parts (not (length name == 0) && nat_le (length name) 32 && is_letter (slice_index name 0)) (list_all is_name_byte name) spelled.0 in
    let begun = and_parts (not (length name == 0) && nat_le (length name) 32) (is_letter (slice_index name 0)) lettered.0 in
    leb-true (length name) 32 (and_parts (not (length name == 0)) (nat_le (length name) 32) begun.0).1
