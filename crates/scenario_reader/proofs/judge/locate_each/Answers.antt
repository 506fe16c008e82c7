use Rattle.std.proofs.Common.{◌<◌, refl}
use Rattle.std.proofs.lemmas.List.{get_or_default}
use Rattle.std.proofs.lemmas.List.Elements.{All-push}
use Rattle.net_base.specs.declared.limits.TheConstants.{LOCATIONS}
use Rattle.list_law.proofs.Exits.{passed_on}
use Rattle.json_values.proofs.ItemsRead.{each_from-next, each_from-stop, each_from-end}
use Rattle.scenario_reader.specs.Rules.{located}
use Rattle.scenario_reader.proofs.judge.locate_each.Goals as goal

pub loop-name-preserved : goal.loop-name-preserved
loop-name-preserved c = record {
  within = rw c.in_ok-push.ensures.items (All-push (λ l. l < LOCATIONS) c.loop-name.all.items c.in_ok-at.at c.loop-name.invariant.within c.in_ok-at.ensures.within);
  read =
      rw c.in_ok-push.ensures.items
      (each_from-next (λ k. k.now) (λ _. located c.args.names.now c.args.field) c.args.raw.now c.loop-name.name-index _ c.loop-name-test.true (get_or_default _ _ _ _ c.loop-name-test.true) _ _ _
      c.in_ok-at.ensures.location c.loop-name.invariant.read);
}

pub returns-in_err-at-clause-locations : goal.returns-in_err-at-clause-locations
returns-in_err-at-clause-locations c =
    rw (passed_on c.from_residual.result c.from_residual.ensures.1) (λ n.
    each_from-stop (λ k. k.now) (λ _. located c.args.names.now c.args.field) c.args.raw.now c.loop-name.name-index _ c.loop-name-test.true (get_or_default _ _ _ _ c.loop-name-test.true) _ _ _
    (c.in_err-at.ensures.location n) c.loop-name.invariant.read)

pub returns-in_err-push-clause-locations : goal.returns-in_err-push-clause-locations
returns-in_err-push-clause-locations c = rw (passed_on c.from_residual-in_err-push.result c.from_residual-in_err-push.ensures.1) (λ n. absurd (n refl))

pub returns-clause-locations : goal.returns-clause-locations
returns-clause-locations c = each_from-end (λ k. k.now) (λ _. located c.args.names.now c.args.field) c.args.raw.now c.loop-name.all.items
    c.loop-name.name-index _ c.loop-name-test.false c.loop-name.invariant.read

pub returns-clause-within : goal.returns-clause-within
returns-clause-within c = c.loop-name.invariant.within
