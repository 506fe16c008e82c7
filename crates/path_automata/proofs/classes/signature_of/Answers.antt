use Rattle.std.proofs.Common.{◌≡◌, ℕ, ◌+◌, ◌<◌, Bool, List, [], ◌∷◌, ◌++◌, length, get_or, map, take, sym, ap, ◌∙◌}
use Rattle.std.proofs.lemmas.List.{map-append, take_all, take_more}
use Rattle.net_base.specs.declared.loc.LocSet.{LocSet}
use Rattle.net_base.specs.Sets.{holds}
use Rattle.path_automata.proofs.classes.signature_of.Goals as goal

-- one set more
one_more : (ss : List LocSet) (i x : ℕ) (d : LocSet) (old new : List Bool) (b : Bool) → i < length ss → b ≡ holds (get_or ss i d) x
    → new ≡ old ++ b ∷ [] → old ≡ map (λ s. holds s x) (take i ss) → new ≡ map (λ s. holds s x) (take (i + 1) ss)
one_more ss i x d old new b lt is q h =
    q ∙ ap (λ l. l ++ b ∷ []) h ∙ ap (λ b. map (λ s. holds s x) (take i ss) ++ b ∷ []) is
    ∙ sym (ap (map (λ s. holds s x)) (take_more ss i d lt) ∙ map-append (λ s. holds s x) (take i ss) (get_or ss i d ∷ []))

pub loop-set-preserved : goal.loop-set-preserved
loop-set-preserved c =
    one_more c.args.sets.now c.loop-set.set-index _ _ _ _ _ c.loop-set-test.true c.holds.ensures c.in_ok-push.ensures.items c.loop-set.invariant

pub returns : goal.returns
returns c = c.loop-set.invariant ∙ ap (map (λ s. holds s c.args.at)) (take_all c.loop-set.set-index c.args.sets.now c.loop-set-test.false)
