use Rattle.std.proofs.Common.{inl, inr}
use Rattle.run_base.specs.Said.{said}
use Rattle.map_reader.proofs.MapReadTexts.{read_is_spelled}
use Rattle.judging_jobs.proofs.MapJobLaws.{maps_said}
use Rattle.judging_jobs.proofs.check_map.check_map_texts.Goals as goal

-- src/check_map.rt:66:1
pub returns : goal.returns
returns c =
    let config = c.in_ok-config.config in
    let maps = c.in_ok-_read._read in
    let read = c.in_ok-_read.ensures in
    let spells = read_is_spelled c.args.maps.now maps c.requires.maps read in
    elim c.maps_compared.ensures [
      | inl none ↦ inl none
      | inr says ↦ inr (inr (config, c.in_ok-config.ensures, inr (maps, read, maps_said config maps c.args.maps.now (said c.maps_compared.result) c.requires.maps read spells says)))
    ]
