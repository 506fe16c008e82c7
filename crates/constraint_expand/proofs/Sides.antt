-- Both sides of a ranked expression, put one after the other.
use Rattle.std.proofs.Common.{◌≡◌, ℕ, true, List, [], ◌∷◌, ◌++◌, map, length, sym, ap, subst, ◌∙◌}
use Rattle.net_base.specs.Network.{PlainNet}
use Rattle.policy_base.specs.Policies.{ranking_of}
use Rattle.policy_base.specs.declared.ranked.Ranked.{Ranked}
use Rattle.path_exprs.specs.Expression.{Expression, either, complement, expressions_of}
use Rattle.path_exprs.specs.Forward.{expressions}
use Rattle.path_exprs.specs.Parts.{at, are_known, Puts}
use Rattle.path_exprs.proofs.Numbers.{at-last, extends-trans, known-more, map-extends, no-shorter, puts-after, puts-append}
use Rattle.constraint_expand.proofs.Turns.{pairs}

-- the expressions of a side
abbrev pub of : PlainNet → Ranked → List Expression
of net r = expressions net (ranking_of r)

pub sides : (net : PlainNet) (old mid new : List Expression) (ns ms all : List ℕ) (x y a b : Ranked) → Puts old mid ns (of net x) → Puts mid new ms (of net y) → x ≡ a → y ≡ b → all ≡ ns ++ ms
    → Puts old new all (of net a ++ of net b)
sides net old mid new ns ms all x y a b first second p q is =
    subst (λ l. Puts old new l (of net a ++ of net b)) (sym is)
    (puts-append old mid new ns ms _ _ (subst (λ r. Puts old mid ns (of net r)) p first) (subst (λ r. Puts mid new ms (of net r)) q second))

pub some-put : (old mid new : List Expression) (ns rs : List ℕ) (es : List Expression) → Puts old mid ns es → Puts mid new rs (either (expressions_of (map (at mid) ns)) ∷ [])
    → Puts old new rs (either (expressions_of es) ∷ [])
some-put old mid new ns rs es put last = puts-after old mid new rs _ put.2 (subst (λ l. Puts mid new rs (either (expressions_of l) ∷ [])) put.0 last)

pub none-put : (old mid up new : List Expression) (ns rs : List ℕ) (n : ℕ) (es : List Expression) → Puts old mid ns es → up ≡ mid ++ either (expressions_of (map (at mid) ns)) ∷ [] → n ≡ length mid
    → Puts up new rs (complement (at up n) ∷ []) → Puts old new rs (complement (either (expressions_of es)) ∷ [])
none-put old mid up new ns rs n es put is number last =
    let some = either (expressions_of (map (at mid) ns)) in
    let same = ap (at up) number ∙ ap (λ l. at l (length mid)) is ∙ at-last mid some ∙ ap (λ l. either (expressions_of l)) put.0 in
    puts-after old up new rs _ (extends-trans old mid up put.2 (some ∷ [], is)) (subst (λ e. Puts up new rs (complement e ∷ [])) same last)

pub first-known : (old mid new : List Expression) (ns ms : List ℕ) (es fs : List Expression) → Puts old mid ns es → Puts mid new ms fs → are_known (length new) ns ≡ true
first-known old mid new ns ms es fs first second = known-more (length mid) (length new) ns (no-shorter mid new second.2) first.1

pub pairs-put : (net : PlainNet) (old mid up new : List Expression) (ns ms rs : List ℕ) (x y a b : Ranked) → Puts old mid ns (of net x) → Puts mid up ms (of net y) → x ≡ a → y ≡ b
    → Puts up new rs (pairs (map (at up) ms) (map (at up) ns)) → Puts old new rs (pairs (of net b) (of net a))
pairs-put net old mid up new ns ms rs x y a b first second p q last =
    puts-after old up new rs _ (extends-trans old mid up first.2 second.2)
    (subst (λ es. Puts up new rs (pairs (of net b) es)) (map-extends mid up ns second.2 first.1 ∙ first.0 ∙ ap (of net) p)
    (subst (λ fs. Puts up new rs (pairs fs (map (at up) ns))) (second.0 ∙ ap (of net) q) last))
