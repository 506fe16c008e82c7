-- Configurations of which no router is unlike are of the same routers.
use Rattle.std.proofs.Common.{◌≡◌, ℕ, ◌+◌, Bool, true, false, List, [], ◌∷◌, Option, Some, None, refl}
use Rattle.std.specs.Prelude.{◌&&◌, ◌==◌, not}
use Rattle.std.specs.Str.{bytes_eq}
use Rattle.std.proofs.lemmas.Bool.{and_parts, eqb-true, false≢true}
use Rattle.std.proofs.lemmas.Slice.Eq.{bytes_eq-Decides}
use Rattle.config_base.specs.declared.config.RouterConfig.{RouterConfig}
use Rattle.config_base.specs.declared.config.Session.{Session}
use Rattle.stage_maker.specs.Alike.{AreAlike, SameNeighbour, SameNeighbours, SameRouter}
use Rattle.stage_check.specs.Unlike.{same_kind, same_neighbour, same_neighbours, same_numbers, same_router, unlike_from}

kind_is : (a b : Bool) → same_kind a b ≡ true → a ≡ b
kind_is true true h = refl
kind_is true false h = absurd (false≢true h)
kind_is false true h = absurd (false≢true h)
kind_is false false h = refl

neighbour_is : (a b : Session) → same_neighbour a b ≡ true → SameNeighbour a b
neighbour_is a b h =
    let one = and_parts (bytes_eq a.name b.name) (a.asn == b.asn && same_kind a.peer b.peer) h in
    let two = and_parts (a.asn == b.asn) (same_kind a.peer b.peer) one.1 in
    record { name = (bytes_eq-Decides a.name b.name).0 one.0; asn = eqb-true a.asn b.asn two.0; peer = kind_is a.peer b.peer two.1 }

neighbours_are : (xs ys : List Session) → same_neighbours xs ys ≡ true → SameNeighbours xs ys
neighbours_are [] [] h = tt
neighbours_are [] (y ∷ ys) h = absurd (false≢true h)
neighbours_are (x ∷ xs) [] h = absurd (false≢true h)
neighbours_are (x ∷ xs) (y ∷ ys) h =
    let parts = and_parts (same_neighbour x y) (same_neighbours xs ys) h in
    (neighbour_is x y parts.0, neighbours_are xs ys parts.1)

router_is : (a b : RouterConfig) → same_router a b ≡ true → SameRouter a b
router_is a b h =
    let parts = and_parts (same_numbers a b) (same_neighbours a.sessions b.sessions) h in
    let one = and_parts (bytes_eq a.name b.name) (a.asn == b.asn && a.id == b.id) parts.0 in
    let two = and_parts (a.asn == b.asn) (a.id == b.id) one.1 in
    record {
      name = (bytes_eq-Decides a.name b.name).0 one.0;
      asn = eqb-true a.asn b.asn two.0;
      id = eqb-true a.id b.id two.1;
      sessions = neighbours_are a.sessions b.sessions parts.1;
    }

pub alike_from : (n : ℕ) (xs ys : List RouterConfig) → unlike_from n xs ys ≡ None → AreAlike xs ys
alike_from n [] [] h = tt
alike_from n [] (y ∷ ys) h = absurd (let clash : Some n ≡ None = h in cc)
alike_from n (x ∷ xs) [] h = absurd (let clash : Some n ≡ None = h in cc)
alike_from n (x ∷ xs) (y ∷ ys) h = by (same_router x y) refl h (alike_from (n + 1) xs ys)
  where
    by : (b : Bool) → same_router x y ≡ b → unlike_from n (x ∷ xs) (y ∷ ys) ≡ None → (unlike_from (n + 1) xs ys ≡ None → AreAlike xs ys) → AreAlike (x ∷ xs) (y ∷ ys)
    by true e none later = (router_is x y e, later (rw e at none))
    by false e none later = absurd (let clash : Some n ≡ None = rw e at none in cc)
