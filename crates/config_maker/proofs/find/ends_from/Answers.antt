use Rattle.std.proofs.Common.{◌≡◌, ◌+◌, ◌-◌, ◌∙◌, ◌≤◌, true, false, length, arith, ap, subst, sym, take, drop}
use Rattle.std.specs.Prelude.{filter}
use Rattle.std.specs.List.{prefix_len}
use Rattle.std.specs.List.Sorted.{IsPartitionPoint}
use Rattle.std.proofs.lemmas.List.{length-drop, take_all}
use Rattle.config_maker.specs.Hops.{goes, is_before, IsReached}
use Rattle.config_maker.proofs.Reached.{start_point, start_reached}
use Rattle.config_maker.proofs.Runs.{upto_parts, hops_run, run_ends}
use Rattle.config_maker.proofs.find.ends_from.Goals as goal

pub returns-clause-run : goal.returns-clause-run
returns-clause-run c =
    let hops = c.args.hops.now in
    let place = c.args.place in
    let at = place + c.skip_len.result in
    let ahead : take (length hops - place) (drop place hops) ≡ drop place hops = take_all (length hops - place) (drop place hops) (omega (arith, length-drop place hops)) in
    let skipped : c.skip_len.result ≡ prefix_len (is_before c.args.from c.args.to) (drop place hops) = c.skip_len.ensures.len ∙ ap (prefix_len (is_before c.args.from c.args.to)) ahead in
    let short : at ≤ length hops = omega (arith, c.skip_len.ensures.within, ap length ahead, length-drop place hops, c.requires.reached.0) in
    let start = subst (λ n. IsPartitionPoint (λ x. is_before c.args.from c.args.to x ≡ true) (λ x. is_before c.args.from c.args.to x ≡ false) hops (place + n)) (sym skipped)
    (start_point c.args.from c.args.to hops place c.requires.reached c.requires.order) in
    let rest : take (length hops - at) (drop at hops) ≡ drop at hops = take_all (length hops - at) (drop at hops) (omega (arith, length-drop at hops)) in
    let len : c.run_len-len.result ≡ prefix_len (goes c.args.from c.args.to) (drop at hops) = c.run_len-len.ensures.len ∙ ap (prefix_len (goes c.args.from c.args.to)) rest in
    subst (λ n. take ((at + n) - at) (drop at hops) ≡ filter (goes c.args.from c.args.to) hops) (sym len)
    (hops_run c.args.from c.args.to hops at _ short start (run_ends c.args.from c.args.to hops at short start (upto_parts c.args.from c.args.to hops c.requires.order)))

pub returns-clause-reached : goal.returns-clause-reached
returns-clause-reached c =
    let hops = c.args.hops.now in
    let place = c.args.place in
    let ahead : take (length hops - place) (drop place hops) ≡ drop place hops = take_all (length hops - place) (drop place hops) (omega (arith, length-drop place hops)) in
    let skipped : c.skip_len.result ≡ prefix_len (is_before c.args.from c.args.to) (drop place hops) = c.skip_len.ensures.len ∙ ap (prefix_len (is_before c.args.from c.args.to)) ahead in
    subst (λ n. IsReached hops (place + n) c.args.from c.args.to) (sym skipped)
    (start_reached c.args.from c.args.to hops place c.requires.reached (omega (arith, skipped, c.skip_len.ensures.within, ap length ahead, length-drop place hops, c.requires.reached.0)))
