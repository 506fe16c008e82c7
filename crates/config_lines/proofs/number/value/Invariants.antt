use Rattle.std.proofs.Common.{◌≡◌, ◌≤◌, ◌^◌, drop, min}
use Rattle.std.specs.Prelude.{fold}
use Rattle.std.specs.List.{list_all}
use Rattle.net_base.specs.Addresses.{is_figure}
use Rattle.config_lines.specs.Numbers.{with_digit, value_of}
use Rattle.config_lines.proofs.number.value.Given as goal

abbrev pub invariant-loop-byte : goal.invariant-loop-byte
invariant-loop-byte l = record {
  digits : list_all is_figure (drop l.byte-index l.bytes) ≡ list_all is_figure l.bytes;
  number : min (fold with_digit l.value (drop l.byte-index l.bytes)) (2 ^ 32) ≡ min (value_of l.bytes) (2 ^ 32);
  low : l.value ≤ 2 ^ 32;
}
