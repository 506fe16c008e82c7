use Rattle.std.proofs.Common.{◌≡◌, length, List, Some, None, refl, sym, subst, ◌∙◌}
use Rattle.policy_base.specs.Policies.{plain_statement}
use Rattle.case_core.specs.declared.firsts.Firsts.{Firsts}
use Rattle.graph_base.specs.Least.{least_below}
use Rattle.case_core.specs.Firsts.{has_both, lacks_path}
use Rattle.case_core.specs.Mixed.{IsFirstMixed}
use Rattle.case_core.specs.Refusals.{IsCause}
use Rattle.case_core.proofs.Given.{fits, made_is_entered}
use Rattle.case_core.proofs.Verdicts.{all_have_paths, first_shows, least_without_path, made_table, mixed_nodes, none_mixed}
use Rattle.case_core.proofs.cases.judged.Goals as goal

pub returns-in-Some-clause-refused : goal.returns-in-Some-clause-refused
returns-in-Some-clause-refused c = λ room built is.
    let case = c.args.case.now in
    let of = made_table c.routers.ensures.rules c.requires.origins c.requires.graph c.requires.made c.routers.ensures.routers c.in_ok-table.ensures in
    let found =
    subst (λ (t : List Firsts). least_below (length t) (lacks_path (plain_statement c.args.statement.now).from case.origins t) ≡ Some c.in-Some.at) c.deref.ensures.value
    (sym c.without_path.ensures ∙ c.in-Some.is) in
    (refl, (built, is.within), least_without_path of c.in-Some.at found)

pub mixed_source-requires-clause-ranked : goal.mixed_source-requires-clause-ranked
mixed_source-requires-clause-ranked c =
    let of = made_table c.routers.ensures.rules c.requires.origins c.requires.graph c.requires.made c.routers.ensures.routers c.in_ok-table.ensures in
    let first = subst (λ (t : List Firsts). IsFirstMixed t c.in-Some-first_mixed.mixed) c.deref-2.ensures.value c.in-Some-first_mixed.ensures in
    (mixed_nodes of c.in-Some-first_mixed.mixed first).0

pub mixed_source-requires-clause-unranked : goal.mixed_source-requires-clause-unranked
mixed_source-requires-clause-unranked c =
    let of = made_table c.routers.ensures.rules c.requires.origins c.requires.graph c.requires.made c.routers.ensures.routers c.in_ok-table.ensures in
    let first = subst (λ (t : List Firsts). IsFirstMixed t c.in-Some-first_mixed.mixed) c.deref-2.ensures.value c.in-Some-first_mixed.ensures in
    (mixed_nodes of c.in-Some-first_mixed.mixed first).1

pub mixed_source-requires-clause-entered : goal.mixed_source-requires-clause-entered
mixed_source-requires-clause-entered c =
    let made = c.requires.made in
    made_is_entered c.args.net.now made.0 (plain_statement c.args.statement.now) c.args.case.now made.1 c.args.graph.now made.2

pub returns-in-Some-first_mixed-clause-refused : goal.returns-in-Some-first_mixed-clause-refused
returns-in-Some-first_mixed-clause-refused c = λ room built is.
    let s = plain_statement c.args.statement.now in
    let case = c.args.case.now in
    let of = made_table c.routers.ensures.rules c.requires.origins c.requires.graph c.requires.made c.routers.ensures.routers c.in_ok-table.ensures in
    let none = subst (λ (t : List Firsts). least_below (length t) (lacks_path s.from case.origins t) ≡ None) c.deref.ensures.value (sym c.without_path.ensures ∙ c.in_default.is) in
    let first = subst (λ (t : List Firsts). IsFirstMixed t c.in-Some-first_mixed.mixed) c.deref-2.ensures.value c.in-Some-first_mixed.ensures in
    let shown = c.in_ok-mixed_source.ensures in
    let mixed = first_shows of c.in-Some-first_mixed.mixed shown.0 shown.1 first shown.2 shown.3 in
    subst (IsCause c.args.net.now c.args.number room s case) (sym shown.4) (refl, all_have_paths of none, (built, c.args.graph.now, is, mixed))

pub returns-clause-fits : goal.returns-clause-fits
returns-clause-fits c =
    let of = made_table c.routers.ensures.rules c.requires.origins c.requires.graph c.requires.made c.routers.ensures.routers c.in_ok-table.ensures in
    let none = subst (λ (t : List Firsts). least_below (length t) (has_both t) ≡ None) c.deref-2.ensures.value c.in_default-first_mixed.ensures in
    fits c.args.net.now (plain_statement c.args.statement.now) c.args.case.now c.args.graph.now of.graph_rules of.faithful (none_mixed of none)

pub returns-clause-paths : goal.returns-clause-paths
returns-clause-paths c =
    let of = made_table c.routers.ensures.rules c.requires.origins c.requires.graph c.requires.made c.routers.ensures.routers c.in_ok-table.ensures in
    let s = plain_statement c.args.statement.now in
    let none = subst (λ (t : List Firsts). least_below (length t) (lacks_path s.from c.args.case.now.origins t) ≡ None) c.deref.ensures.value (sym c.without_path.ensures ∙ c.in_default.is) in
    all_have_paths of none

pub returns-clause-unmixed : goal.returns-clause-unmixed
returns-clause-unmixed c =
    let of = made_table c.routers.ensures.rules c.requires.origins c.requires.graph c.requires.made c.routers.ensures.routers c.in_ok-table.ensures in
    let none = subst (λ (t : List Firsts). least_below (length t) (has_both t) ≡ None) c.deref-2.ensures.value c.in_default-first_mixed.ensures in
    none_mixed of none
