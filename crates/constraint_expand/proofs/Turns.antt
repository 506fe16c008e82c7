-- One more of a list in each turn of a loop.
use Rattle.std.proofs.Common.{◌≡◌, ℕ, ◌<◌, ◌+◌, true, List, [], ◌∷◌, ◌++◌, map, length, get_or, take, sym, ap, subst, ◌∙◌}
use Rattle.std.specs.List.{flat_map}
use Rattle.std.proofs.lemmas.List.{append-nil, map-append, take_more}
use Rattle.std.proofs.lemmas.Grind.{flat_map-append}
use Rattle.net_base.specs.Network.{PlainNet}
use Rattle.net_base.specs.declared.loc.LocSet.{LocSet}
use Rattle.policy_words.specs.declared.word.SetCall.{SetCall}
use Rattle.policy_base.specs.declared.call.Call.TheVariants.{Of}
use Rattle.path_exprs.specs.Expression.{Expression}
use Rattle.path_exprs.specs.Forward.{both_of_two, forward}
use Rattle.path_exprs.specs.Parts.{at, are_known, Puts}
use Rattle.path_exprs.proofs.Numbers.{at-extends, known-at, map-extends, puts-append, puts-one}

map-turn : {A B : Type 0} (f : A → B) (xs : List A) (i : ℕ) (d : A) → i < length xs → map f (take (i + 1) xs) ≡ map f (take i xs) ++ f (get_or xs i d) ∷ []
map-turn f xs i d lt = ap (map f) (take_more xs i d lt) ∙ map-append f (take i xs) (get_or xs i d ∷ [])

pub set-turn : (net : PlainNet) (old cur new : List Expression) (ns : List ℕ) (c : SetCall) (sets : List LocSet) (i n : ℕ) (d : LocSet) (e : Expression)
    → Puts old cur ns (map (forward net) (map (Of c) (take i sets))) → i < length sets → e ≡ forward net (Of c (get_or sets i d)) → new ≡ cur ++ e ∷ [] → n ≡ length cur
    → Puts old new (ns ++ n ∷ []) (map (forward net) (map (Of c) (take (i + 1) sets)))
set-turn net old cur new ns c sets i n d e put lt called is number =
    subst (Puts old new (ns ++ n ∷ []))
    (sym (ap (map (forward net)) (map-turn (Of c) sets i d lt) ∙ map-append (forward net) (map (Of c) (take i sets)) (Of c (get_or sets i d) ∷ [])))
    (puts-append old cur new ns (n ∷ []) _ _ put (subst (λ x. Puts cur new (n ∷ []) (x ∷ [])) called (puts-one cur new e n is number)))

pub pair-turn : (old cur new : List Expression) (ns : List ℕ) (e : ℕ) (fs : List ℕ) (i n d : ℕ) → Puts old cur ns (map (both_of_two (at old e)) (map (at old) (take i fs)))
    → e < length old → are_known (length old) fs ≡ true → i < length fs → new ≡ cur ++ both_of_two (at cur e) (at cur (get_or fs i d)) ∷ [] → n ≡ length cur
    → Puts old new (ns ++ n ∷ []) (map (both_of_two (at old e)) (map (at old) (take (i + 1) fs)))
pair-turn old cur new ns e fs i n d put first second lt is number =
    let f = get_or fs i d in
    let same = ap (λ x. both_of_two x (at cur f)) (at-extends old cur e put.2 first) ∙ ap (both_of_two (at old e)) (at-extends old cur f put.2 (known-at (length old) fs i d lt second)) in
    subst (Puts old new (ns ++ n ∷ []))
    (sym (ap (map (both_of_two (at old e))) (map-turn (at old) fs i d lt) ∙ map-append (both_of_two (at old e)) (map (at old) (take i fs)) (at old f ∷ [])))
    (puts-append old cur new ns (n ∷ []) _ _ put (subst (λ x. Puts cur new (n ∷ []) (x ∷ [])) same (puts-one cur new _ n is number)))

-- each with each
abbrev pub pairs : List Expression → List Expression → List Expression
pairs fs es = flat_map (λ e. map (both_of_two e) fs) es

pub row-turn : (old cur new : List Expression) (ns ms : List ℕ) (es fs : List ℕ) (i d : ℕ) → Puts old cur ns (pairs (map (at old) fs) (map (at old) (take i es)))
    → are_known (length old) es ≡ true → are_known (length old) fs ≡ true → i < length es → Puts cur new ms (map (both_of_two (at cur (get_or es i d))) (map (at cur) fs))
    → Puts old new (ns ++ ms) (pairs (map (at old) fs) (map (at old) (take (i + 1) es)))
row-turn old cur new ns ms es fs i d put first second lt row =
    let e = get_or es i d in
    let rows : Expression → List Expression = λ x. map (both_of_two x) (map (at old) fs) in
    let same = ap (λ l. map (both_of_two (at cur e)) l) (map-extends old cur fs put.2 second) ∙ ap rows (at-extends old cur e put.2 (known-at (length old) es i d lt first)) in
    subst (Puts old new (ns ++ ms))
    (sym (ap (flat_map rows) (map-turn (at old) es i d lt) ∙ flat_map-append rows (map (at old) (take i es)) (at old e ∷ [])
    ∙ ap (λ l. pairs (map (at old) fs) (map (at old) (take i es)) ++ l) (append-nil (rows (at old e)))))
    (puts-append old cur new ns ms _ _ put (subst (Puts cur new ms) same row))
