use Rattle.std.proofs.Common.{◌≡◌, ◌+◌, Ok, refl, ap, arith}
use Rattle.list_law.proofs.Exits.{passed_on}
use Rattle.net_base.specs.Steps.{◌>>=◌}
use Rattle.net_base.proofs.StepLemmas.{ok_same}
use Rattle.policy_grammar.specs.declared.symbol.Symbol.TheVariants.{RoundClose}
use Rattle.policy_grammar.specs.Left.{left}
use Rattle.policy_grammar.specs.Reading.{after}
use Rattle.policy_rules.specs.KnownView.{plain_names}
use Rattle.policy_values.specs.CallReaders.{PlacesValue, path_value, plain_places}
use Rattle.policy_values.proofs.CallLaws.{path_begun, valued}
use Rattle.policy_values.proofs.LexemeCounts.{left_few}
use Rattle.policy_values.proofs.reader.Reader.path_places.Goals as goal

pub more_places-requires-clause-room : goal.more_places-requires-clause-room
more_places-requires-clause-room c =
    let none : c.args.places.now.count ≡ 0 = ap (λ (p : PlacesValue). p.count) c.requires.none in
    let one : c.args.places.now.count + 1 ≡ c.take.new.self.count = ap (λ (p : PlacesValue). p.count) (ok_same _ _ c.in_ok-take.ensures) in
    let two : c.take.new.self.count + 1 ≡ c.take-2.new.self.count = ap (λ (p : PlacesValue). p.count) (ok_same _ _ c.in_ok-take-2.ensures) in
    omega (arith, none, one, two, left_few c.args.self.now.text.now c.one_behind-2.new.at c.one_behind-2.ensures.stands)

pub returns-in_err-more_places-clause-read : goal.returns-in_err-more_places-clause-read
returns-in_err-more_places-clause-read c =
    rw (passed_on c.from_residual-in_err-more_places.result c.from_residual-in_err-more_places.ensures.1)
    (λ memory. path_begun c.args.self.now.text.now c.args.self.now.whole.now.net.now (plain_names c.args.self.now.known.now) _ _ _ c.in_ok-a.a c.in_ok-b.b
    (plain_places c.args.places.now)
    (plain_places c.take.new.self) (plain_places c.take-2.new.self) _ c.in_ok-a.ensures.read c.in_ok-b.ensures.read
    c.requires.none c.in_ok-take.ensures c.in_ok-take-2.ensures (rw (c.in_err-more_places.ensures.read memory) refl))

pub returns-clause-read : goal.returns-clause-read
returns-clause-read c =
    let closed = after RoundClose (left c.args.self.now.text.now c.more_places.new.at) in
    let value = path_value (plain_places c.more_places.new.places) in
    rw (path_begun c.args.self.now.text.now c.args.self.now.whole.now.net.now (plain_names c.args.self.now.known.now) _ _ _ c.in_ok-a.a c.in_ok-b.b
    (plain_places c.args.places.now)
    (plain_places c.take.new.self) (plain_places c.take-2.new.self) (closed >>= λ rest. Ok (value, rest)) c.in_ok-a.ensures.read c.in_ok-b.ensures.read
    c.requires.none c.in_ok-take.ensures c.in_ok-take-2.ensures (rw c.in_ok-more_places.ensures.read refl))
    (valued value closed (left c.args.self.now.text.now c.passed.new.at) c.passed.result c.passed.ensures.read)
