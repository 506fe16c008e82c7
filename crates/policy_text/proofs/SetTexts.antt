-- The ranked sets of a call, as calls of one set each.
use Rattle.std.proofs.Common.{◌≡◌, ◌++◌, ◌∷◌, ◌≤◌, ◌-◌, List, [], ap, arith, drop, flat_map, get_or, length, map, refl, subst, sym, take, take_all, ◌∙◌}
use Rattle.std.specs.Prelude.{codes}
use Rattle.std.specs.List.{AllByRecursion}
use Rattle.net_base.specs.declared.loc.LocSet.{LocSet}
use Rattle.net_base.specs.Network.{PlainNet}
use Rattle.policy_words.specs.declared.word.SetCall.{SetCall}
use Rattle.policy_base.specs.declared.call.Call.TheVariants.{Of}
use Rattle.policy_words.specs.Words.{set_word}
use Rattle.policy_text.specs.PolicyText.{calls_text, names_in, next_set, next_sets, set_text}
use Rattle.policy_text.specs.Values.{HaveLocSets, IsLocSet}

pub sets_of_calls : (net : PlainNet) (c : SetCall) (sets : List LocSet) → flat_map (next_sets net) (map (Of c) sets) ≡ flat_map (next_set net) sets
sets_of_calls net c [] = refl
sets_of_calls net c (s ∷ sets) = ap (λ t. next_set net s ++ t) (sets_of_calls net c sets)

-- the sets behind the first one
abbrev pub further : List LocSet → List LocSet
further sets = take (length sets - 1) (drop 1 sets)

further-cons : (s : LocSet) (sets : List LocSet) → further (s ∷ sets) ≡ sets
further-cons s sets = take_all (length (s ∷ sets) - 1) sets (omega arith)

pub calls_text_of : (net : PlainNet) (c : SetCall) (sets : List LocSet) (d : LocSet) → 1 ≤ length sets
    → calls_text net (map (Of c) sets)
    ≡ set_word c ++ codes "(" ++ set_text net (names_in net (get_or sets 0 d)) ++ flat_map (next_set net) (further sets) ++ codes ")"
unfolding calls_text
calls_text_of net c [] d some = absurd (omega (arith, some))
calls_text_of net c (s ∷ sets) d some =
    ap (λ t. set_word c ++ codes "(" ++ set_text net (names_in net s) ++ t ++ codes ")")
    (sets_of_calls net c sets ∙ ap (flat_map (next_set net)) (sym (further-cons s sets)))

have_sets : (c : SetCall) (sets : List LocSet) → AllByRecursion IsLocSet sets → HaveLocSets (map (Of c) sets)
have_sets c [] all = tt
have_sets c (s ∷ sets) all = ((all.0, tt), have_sets c sets all.1)

pub calls_have_sets : (c : SetCall) (sets : List LocSet) (d : LocSet) → 1 ≤ length sets → IsLocSet (get_or sets 0 d) → AllByRecursion IsLocSet (further sets)
    → HaveLocSets (map (Of c) sets)
calls_have_sets c [] d some first rest = absurd (omega (arith, some))
calls_have_sets c (s ∷ sets) d some first rest = ((first, tt), have_sets c sets (subst (AllByRecursion IsLocSet) (further-cons s sets) rest))
