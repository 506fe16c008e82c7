use Rattle.std.proofs.Common.{Option, refl, ap, sym}
use Rattle.list_law.proofs.Exits.{passed_on}
use Rattle.net_base.specs.declared.place.Place.{Place}
use Rattle.policy_rules.specs.KnownView.{plain_names}
use Rattle.policy_values.specs.CallReaders.{sets_value, placeless, plain_sets}
use Rattle.policy_values.proofs.CallLaws.{sets_begun}
use Rattle.policy_values.proofs.ReadsOver.{read_same}
use Rattle.policy_values.proofs.reader.Reader.ranked_sets.Goals as goal

pub returns-in_err-more_sets-clause-read : goal.returns-in_err-more_sets-clause-read
returns-in_err-more_sets-clause-read c =
    rw (passed_on c.from_residual-in_err-more_sets.result c.from_residual-in_err-more_sets.ensures.1)
    (λ memory. sets_begun c.args.self.now.text.now c.args.self.now.whole.now.net.now (plain_names c.args.self.now.known.now) c.args.call _ _ _
    c.in_ok-set.set
    (plain_sets c.args.sets.now) (plain_sets c.take.new.self) _ c.in_ok-passed.ensures.read c.in_ok-set.ensures.read c.requires.none c.in_ok-take.ensures
    (rw (c.in_err-more_sets.ensures.read memory) refl))

pub returns-in_err-passed-2-clause-read : goal.returns-in_err-passed-2-clause-read
returns-in_err-passed-2-clause-read c =
    rw (passed_on c.from_residual-in_err-passed-2.result c.from_residual-in_err-passed-2.ensures.1)
    (λ memory. sets_begun c.args.self.now.text.now c.args.self.now.whole.now.net.now (plain_names c.args.self.now.known.now) c.args.call _ _ _
    c.in_ok-set.set
    (plain_sets c.args.sets.now) (plain_sets c.take.new.self) _ c.in_ok-passed.ensures.read c.in_ok-set.ensures.read c.requires.none c.in_ok-take.ensures
    (rw (c.in_ok-more_sets.ensures.read, c.in_err-passed-2.ensures.read memory) refl))

pub returns-clause-read : goal.returns-clause-read
returns-clause-read c =
    sets_begun c.args.self.now.text.now c.args.self.now.whole.now.net.now (plain_names c.args.self.now.known.now) c.args.call _ _ _
    c.in_ok-set.set
    (plain_sets c.args.sets.now) (plain_sets c.take.new.self) _ c.in_ok-passed.ensures.read c.in_ok-set.ensures.read c.requires.none c.in_ok-take.ensures
    (rw (c.in_ok-more_sets.ensures.read, c.in_ok-passed-2.ensures.read)
    (read_same _ _ _ (ap (λ (o : Option Place). placeless o (sets_value c.args.call (plain_sets c.more_sets.new.sets))) (sym (c.above-above.ensures c.args.self.now.text.now)))))
