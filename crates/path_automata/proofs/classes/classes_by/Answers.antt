use Rattle.std.proofs.Common.{◌≡◌, Bool, [], ◌∷◌, Some, Vec, Global, length, map, option_map, ap, sym, ◌∙◌, arith, length-append}
use Rattle.std.proofs.Math.Bool.{beq}
use lib.Pointwise.{pointwise}
use Rattle.std.proofs.lemmas.List.{length-map}
use Rattle.std.specs.Prelude.{slice_get}
use Rattle.std.proofs.lemmas.Option.{same_Some, slice_get-map, slice_get_within}
use Rattle.net_base.specs.Sets.{holds}
use Rattle.path_automata.proofs.ClassLemmas.{all_agree, bools_same, get-grown, mapped-inserted, signed_more}
use Rattle.path_automata.proofs.classes.classes_by.Goals as goal

pub loop-at-preserved : goal.loop-at-preserved
loop-at-preserved c =
    let keys = c.insert_full.new.self.keys in
    let stored = c.in_ok-class.ensures.stored in
    let this : slice_get (map (λ (v : Vec Bool Global). v.items) keys) c.in_ok-class.class ≡ Some (map (λ s. holds s (length c.loop-at.classes.items)) c.args.sets.now) =
    slice_get-map (λ (v : Vec Bool Global). v.items) keys c.in_ok-class.class
    ∙ ap (option_map (λ (v : Vec Bool Global). v.items)) stored.1
    ∙ ap Some (sym (bools_same c.in_ok-signature.signature.items stored.0.items stored.2) ∙ c.in_ok-signature.ensures
    ∙ ap (λ n. map (λ s. holds s n) c.args.sets.now) (c.new.ensures ∙ sym c.loop-at.invariant.len)) in
    record {
      len = omega (arith, ap length c.in_ok-push.ensures.items, length-append c.loop-at.classes.items (c.in_ok-class.class ∷ []));
      signed = λ x k g.
          signed_more c.args.sets.now c.loop-at.classes.items (map (λ (v : Vec Bool Global). v.items) c.loop-at.signatures.keys)
          (map (λ (v : Vec Bool Global). v.items) keys) c.in_ok-class.class c.loop-at.invariant.signed
          (get-grown _ _ c.in_ok-signature.signature.items (mapped-inserted (λ (v : Vec Bool Global). v.items)
          (λ (v w : Vec Bool Global). pointwise beq v.items w.items) c.loop-at.signatures.keys keys c.in_ok-signature.signature
          c.in_ok-class.ensures.keys))
          this x k (ap (λ l. slice_get l x) (sym c.in_ok-push.ensures.items) ∙ g);
    }

pub returns-clause-below : goal.returns-clause-below
returns-clause-below c = λ at k g.
    let within = slice_get_within _ k _ (c.loop-at.invariant.signed at k g) in
    let size = length-map c.loop-at.signatures.keys (λ (v : Vec Bool Global). v.items) in
    let len = c.len.ensures.len in
    omega (arith, within, size, len)

pub returns-clause-agree : goal.returns-clause-agree
returns-clause-agree c = λ x y s.
    all_agree x y c.args.sets.now (same_Some _ _ (sym (c.loop-at.invariant.signed x s.0 s.1) ∙ c.loop-at.invariant.signed y s.0 s.2))
