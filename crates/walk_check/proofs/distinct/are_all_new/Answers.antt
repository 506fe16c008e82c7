use Rattle.std.proofs.Common.{◌≡◌, ◌∙◌, ◌++◌, ◌∷◌, [], ap, sym, true, false, take}
use Rattle.std.specs.List.{list_any}
use Rattle.std.proofs.lemmas.Bool.{false≢true, not-false, not-true}
use Rattle.graph_base.specs.Rules.{same_pair}
use Rattle.walk_check.proofs.KeysSeen.{apart_next, next_keys, stands_twice}
use Rattle.walk_check.proofs.distinct.are_all_new.Goals as goal

pub returns-then-not-branch : goal.returns-then-not-branch
returns-then-not-branch c =
    let key = c.key-item.result in
    let old : list_any (same_pair key) (take c.loop-key.key-index c.args.keys.now) ≡ true =
    ap (list_any (same_pair key)) (sym c.loop-key.invariant.keys) ∙ not-false _ (sym c.in_ok-note.ensures.fresh ∙ c.if-not-branch.true) in
    (λ h. absurd (false≢true h), λ apart. absurd (stands_twice c.args.keys.now c.loop-key.key-index key c.loop-key-test.true c.key-item.is old apart))

pub loop-key-preserved : goal.loop-key-preserved
loop-key-preserved c =
    let key = c.key-item.result in
    let new : list_any (same_pair key) (take c.loop-key.key-index c.args.keys.now) ≡ false =
    ap (list_any (same_pair key)) (sym c.loop-key.invariant.keys) ∙ not-true _ (sym c.in_ok-note.ensures.fresh ∙ c.if-not-branch.false) in
    record {
      keys =
          c.in_ok-note.ensures.added c.if-not-branch.false ∙ ap (λ ks. ks ++ key ∷ []) c.loop-key.invariant.keys
          ∙ sym (next_keys c.args.keys.now c.loop-key.key-index key c.loop-key-test.true c.key-item.is);
      apart = apart_next c.args.keys.now c.loop-key.key-index key c.loop-key-test.true c.key-item.is c.loop-key.invariant.apart new;
    }
