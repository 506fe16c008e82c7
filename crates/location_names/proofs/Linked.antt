-- The sets of the locations to which locations are linked, link by link.
use Rattle.std.proofs.Common.{◌≡◌, ℕ, ◌+◌, ◌<◌, ◌∙◌, Bool, List, ◌++◌, ap, drop, get_or, length, sym, take, arith}
use Rattle.std.specs.Prelude.{◌==◌, ◌&&◌, ◌||◌}
use Rattle.std.specs.List.{list_any}
use Rattle.std.proofs.lemmas.List.{append-nil, drop_all, take_all}
use Rattle.std.proofs.lemmas.List.Folds.{list_any_more}
use Rattle.std.proofs.Math.Bool.{and_comm, or_assoc}
use Rattle.list_law.proofs.Numbers.{eqb_comm}
use Rattle.list_law.proofs.Truth.{and_alike}
use Rattle.net_base.specs.Network.{joins}

-- a slice of a whole vector that was written back
pub written_back : {A : Type 0} (n : ℕ) (new old : List A) → length new ≡ n → length old ≡ n → take n (new ++ drop (length new) old) ≡ new
written_back n new old long size =
    let rest : new ++ drop (length new) old ≡ new = ap (λ xs. new ++ xs) (drop_all (length new) old (omega (arith, long, size))) ∙ append-nil new in
    ap (take n) rest ∙ take_all n new (omega (arith, long))

-- both ends of a link are put
pub link_put : (held first both : Bool) (x n : ℕ) (links : List (ℕ × ℕ)) (i : ℕ) (link : ℕ × ℕ) → i < length links → link ≡ get_or links i link → held ≡ list_any (joins x n) (take i links)
    → first ≡ (held || (x == link.0 && n == link.1)) → both ≡ (first || (x == link.1 && n == link.0)) → both ≡ list_any (joins x n) (take (i + 1) links)
link_put held first both x n links i link lt is so one two =
    two
    ∙ ap (λ b. b || (x == link.1 && n == link.0)) one
    ∙ or_assoc held (x == link.0 && n == link.1) (x == link.1 && n == link.0)
    ∙ ap (λ b. held || (b || (x == link.1 && n == link.0))) (and_alike (eqb_comm x link.0) (eqb_comm n link.1))
    ∙ ap (λ b. held || ((link.0 == x && link.1 == n) || b)) (and_comm (x == link.1) (n == link.0) ∙ and_alike (eqb_comm n link.0) (eqb_comm x link.1))
    ∙ ap (λ b. b || joins x n link) so
    ∙ ap (λ (l : ℕ × ℕ). list_any (joins x n) (take i links) || joins x n l) is
    ∙ sym (list_any_more (joins x n) links i link lt)
