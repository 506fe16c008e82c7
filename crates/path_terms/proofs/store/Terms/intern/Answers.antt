use Rattle.std.proofs.Common.{◌≡◌, true, sym, subst, ◌<◌}
use Rattle.std.proofs.lemmas.Option.{slice_get_within}
use Rattle.path_terms.specs.Terms.{each_sound, AreApart, expressions}
use Rattle.path_terms.proofs.Growth.{insert-sound, insert-apart, insert-extends, insert-made, length-expressions, on_either}
use Rattle.path_terms.proofs.store.Terms.intern.Goals as goal

pub invariant_of-self-clause-sound : goal.invariant_of-self-clause-sound
invariant_of-self-clause-sound c =
    on_either c.insert_full.result _ _ _ c.insert_full.ensures.keys c.insert_full.ensures.err
    (λ x e. insert-sound c.args.self.now.found.keys c.insert_full.new.self.keys c.args.term c.args.self.now.sound c.requires.sound e)
    (λ u. subst (λ l. each_sound 0 l ≡ true) (sym u) c.args.self.now.sound)

pub invariant_of-self-clause-apart : goal.invariant_of-self-clause-apart
invariant_of-self-clause-apart c =
    on_either c.insert_full.result _ _ _ c.insert_full.ensures.keys c.insert_full.ensures.err
    (λ x e. insert-apart c.args.self.now.found.keys c.insert_full.new.self.keys c.args.term c.args.self.now.sound c.args.self.now.apart c.requires.sound e)
    (λ u. subst (λ l. AreApart (expressions l)) (sym u) c.args.self.now.apart)

pub returns-clause-made : goal.returns-clause-made
returns-clause-made c =
    let stored = c.in_ok-number.ensures.stored in
    insert-made c.args.self.now.found.keys c.insert_full.new.self.keys c.args.term stored.0 c.in_ok-number.number c.args.self.now.sound c.requires.sound c.in_ok-number.ensures.keys stored.1 stored.2

pub returns-clause-known : goal.returns-clause-known
returns-clause-known c =
    let stored = c.in_ok-number.ensures.stored in
    subst (λ m. c.in_ok-number.number < m) (sym (length-expressions c.insert_full.new.self.keys)) (slice_get_within c.insert_full.new.self.keys c.in_ok-number.number stored.0 stored.1)

pub returns-clause-extends : goal.returns-clause-extends
returns-clause-extends c = insert-extends c.args.self.now.found.keys c.insert_full.new.self.keys c.args.term c.in_ok-number.ensures.keys
