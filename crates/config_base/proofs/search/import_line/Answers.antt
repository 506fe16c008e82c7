use Rattle.std.proofs.Common.{rules, ◌≤◌, length, refl, sym, ap, ◌∙◌}
use Rattle.std.proofs.lemmas.Option.{slice_get_past, slice_get_read}
use Rattle.config_base.specs.declared.config.Import.{Import}
use Rattle.config_base.specs.Configs.{Key, tag_key}
use Rattle.config_base.proofs.LineSearch.{same_key, kept, searched}
use Rattle.config_base.proofs.search.import_line.Goals as goal

abbrev key : Import → Key
key r = tag_key r.class r.tag

pub returns-in_err-rule : goal.returns-in_err-rule
returns-in_err-rule c =
    let k = tag_key c.args.class c.args.tag in
    let at = searched key k c.args.imports.now c.partition_point-place.result c.requires c.partition_point-place.ensures.partitioned (λ a r f h. search rules) in
    let past : length c.args.imports.now ≤ c.partition_point-place.result = search rules in
    c.from_residual.ensures ∙ sym (at ∙ ap (kept (λ (r : Import). same_key (key r) k)) (slice_get_past c.args.imports.now _ past))

pub returns : goal.returns
returns c =
    let k = tag_key c.args.class c.args.tag in
    let at = searched key k c.args.imports.now c.partition_point-place.result c.requires c.partition_point-place.ensures.partitioned (λ a r f h. search rules) in
    let got = slice_get_read c.args.imports.now (length c.args.imports.now) c.partition_point-place.result c.in_ok-rule.field-0.now refl (search rules) (search rules) in
    c.import_if.ensures ∙ sym (at ∙ ap (kept (λ (r : Import). same_key (key r) k)) got)
