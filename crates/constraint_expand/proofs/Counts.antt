-- There are as many expressions as alternatives.
use Rattle.std.proofs.Common.{◌≡◌, ℕ, ◌*◌, ◌-◌, ◌^◌, ◌≤◌, min, List, [], ◌∷◌, length, map, refl, sym, ap, ◌∙◌, arith}
use Rattle.std.specs.List.{flat_map}
use Rattle.std.proofs.lemmas.List.{length-map, length-append}
use Rattle.std.proofs.Math.Nat.{suc-mul}
use Rattle.net_base.specs.Network.{PlainNet}
use Rattle.policy_base.specs.Meaning.{alternative_count}
use Rattle.policy_base.specs.Policies.{Ranking, call, calls, prefer, either, both, negated}
use Rattle.path_exprs.specs.Expression.{Expression}
use Rattle.path_exprs.specs.Forward.{both_of_two, expressions, forward}
use Rattle.path_exprs.specs.Parts.{at}

length-rows : (es fs : List Expression) → length (flat_map (λ e. map (both_of_two e) fs) es) ≡ length es * length fs
length-rows [] fs = omega arith
length-rows (e ∷ es) fs =
    length-append (map (both_of_two e) fs) (flat_map (λ e. map (both_of_two e) fs) es)
    ∙ omega (arith, length-map fs (both_of_two e), length-rows es fs, suc-mul (length es) (length fs))

length-expressions : (net : PlainNet) (r : Ranking) → length (expressions net r) ≡ alternative_count r
length-expressions net (call c) = refl
length-expressions net (calls cs) = length-map cs (forward net)
length-expressions net (prefer a b) = length-append (expressions net a) (expressions net b) ∙ cc (length-expressions net a, length-expressions net b)
length-expressions net (both a b) = length-rows (expressions net a) (expressions net b) ∙ cc (length-expressions net a, length-expressions net b)
length-expressions net (either a b) = refl
length-expressions net (negated a) = refl

-- as many numbers as expressions, where there are few
pub few : (net : PlainNet) (r : Ranking) (vs : List Expression) (ns : List ℕ) (count : ℕ) → map (at vs) ns ≡ expressions net r
    → count ≡ min (alternative_count r) (2 ^ 64 - 1) → count ≤ 64 → length ns ≤ 64
few net r vs ns count is counted small = omega (arith, sym (length-map ns (at vs)) ∙ ap length is ∙ length-expressions net r, counted)
