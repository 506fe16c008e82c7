use Rattle.std.proofs.Common.{rules, ◌≤◌, length, refl, sym, ap, ◌∙◌}
use Rattle.std.proofs.lemmas.Option.{slice_get_past, slice_get_read}
use Rattle.config_base.specs.declared.config.Export.{Export}
use Rattle.config_base.specs.Configs.{Key, tag_key}
use Rattle.config_base.proofs.LineSearch.{same_key, passes, searched_any}
use Rattle.config_base.proofs.search.has_export.Goals as goal

abbrev key : Export → Key
key e = tag_key e.class e.tag

pub returns-in-None : goal.returns-in-None
returns-in-None c =
    let k = tag_key c.args.class c.args.tag in
    let at = searched_any key k c.args.exports.now c.partition_point-place.result c.requires c.partition_point-place.ensures.partitioned (λ a r f h. search rules) in
    let past : length c.args.exports.now ≤ c.partition_point-place.result = search rules in
    sym (at ∙ ap (passes (λ (e : Export). same_key (key e) k)) (slice_get_past c.args.exports.now _ past))

pub returns-in-Some : goal.returns-in-Some
returns-in-Some c =
    let k = tag_key c.args.class c.args.tag in
    let at = searched_any key k c.args.exports.now c.partition_point-place.result c.requires c.partition_point-place.ensures.partitioned (λ a r f h. search rules) in
    let got = slice_get_read c.args.exports.now (length c.args.exports.now) c.partition_point-place.result c.in-Some.line.now refl (search rules) (search rules) in
    c.is_export.ensures ∙ sym (at ∙ ap (passes (λ (e : Export). same_key (key e) k)) got)
