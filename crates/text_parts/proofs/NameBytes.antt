-- Each byte of a name is one that names may have.
use Rattle.std.proofs.Common.{◌≡◌, ℕ, List, length, true}
use Rattle.std.specs.Prelude.{◌&&◌, ◌==◌, not, nat_le, slice_index, IsTrue}
use Rattle.std.specs.List.{list_all}
use Rattle.std.proofs.lemmas.Bool.{and_parts}
use Rattle.net_base.specs.NameRule.{is_name, is_name_byte, is_letter}

pub name_bytes : (name : List ℕ) → IsTrue (is_name name) → list_all is_name_byte name ≡ true
unfolding is_name
name_bytes name is =
    let all = and_parts (not (length name == 0) && nat_le (length name) 32 && is_letter (slice_index name 0) && list_all is_name_byte name) _ is in
    (and_parts (not (length name == 0) && nat_le (length name) 32 && is_letter (slice_index name 0)) (list_all is_name_byte name) all.0).1
