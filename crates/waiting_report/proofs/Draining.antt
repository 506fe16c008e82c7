-- Queues that are told one after another, and are taken out of the world.
use Rattle.std.proofs.Common.{◌≡◌, ◌≢◌, ℕ, zero, suc, ◌+◌, ◌<◌, false, List, [], ◌∷◌, ◌++◌, drop, get_or, length, Option, None, refl, sym, ap, ap₂, ◌∙◌, add-one, arith, append_assoc, subst}
use Rattle.std.specs.Prelude.{slice_index_or}
use Rattle.std.specs.List.{flat_map, AllByRecursion}
use Rattle.std.proofs.lemmas.Bool.Decides.{nat_tests}
use Rattle.net_base.specs.Network.{PlainNet, Ascend, IsBefore, IsLink}
use Rattle.config_base.specs.declared.route.Route.{Route}
use Rattle.event_base.specs.World.{World, is}
use Rattle.event_state.specs.Changes.{with_queue}
use Rattle.waiting_report.specs.Lines.{link_lines, waits_line, way_lines}

-- the first message is told, and leaves its queue
pub first_told : (net : PlainNet) (a b : ℕ) (text : List ℕ) (queue : List (Option Route)) (m : Option Route) → 0 < length queue → m ≡ slice_index_or queue 0 None
    → (text ++ waits_line net a b m) ++ flat_map (waits_line net a b) (drop 1 queue) ≡ text ++ flat_map (waits_line net a b) queue
first_told net a b text [] m some is = absurd (omega (arith, some))
first_told net a b text (x ∷ queue) m some is =
    append_assoc text (waits_line net a b m) (flat_map (waits_line net a b) queue)
    ∙ ap (λ (y : Option Route). text ++ (waits_line net a b y ++ flat_map (waits_line net a b) queue)) is

pub one_fewer : {A : Type 0} (k count : ℕ) (queue : List A) → k < count → k + length queue ≡ count → (0 < length queue) × ((k + 1) + length (drop 1 queue) ≡ count)
one_fewer k count [] less is = absurd (omega (arith, less, is))
one_fewer k count (x ∷ queue) less is = (omega arith, omega (arith, is))

-- nothing is taken from the other direction
other_way : (a b : ℕ) → a ≢ b → is a b b a ≡ false
other_way a b apart = grind (arith, nat_tests)

-- a world without what waits on a link
abbrev pub without : ℕ × ℕ → World Route → World Route
without l w = with_queue l.1 l.0 [] (with_queue l.0 l.1 [] w)

module _ (net : PlainNet) (w : World Route) where
  pub back_lines : (a b : ℕ) → a ≢ b → way_lines net (with_queue a b [] w) b a ≡ way_lines net w b a
  back_lines a b apart = rw (other_way a b apart) refl

  -- later links are others, either way
  module _ (l m : ℕ × ℕ) (up : l.0 < l.1) (up' : m.0 < m.1) (before : IsBefore l m) where
    forth : is l.0 l.1 m.0 m.1 ≡ false
    forth = grind (arith, nat_tests)

    forth_back : is l.1 l.0 m.0 m.1 ≡ false
    forth_back = grind (arith, nat_tests)

    back : is l.0 l.1 m.1 m.0 ≡ false
    back = grind (arith, nat_tests)

    back_back : is l.1 l.0 m.1 m.0 ≡ false
    back_back = grind (arith, nat_tests)

    later : link_lines net (without l w) m ≡ link_lines net w m
    later = rw (forth_back, forth, back_back, back) refl

  all_later : (l : ℕ × ℕ) (links : List (ℕ × ℕ)) → l.0 < l.1 → AllByRecursion (IsBefore l) links → AllByRecursion (IsLink net) links
      → flat_map (link_lines net (without l w)) links ≡ flat_map (link_lines net w) links
  all_later l [] up before are = refl
  all_later l (m ∷ links) up before are = ap₂ (λ (xs ys : List ℕ). xs ++ ys) (later l m up are.0.0 before.0) (all_later l links up before.1 are.1)

  told_then : (text : List ℕ) (l : ℕ × ℕ) (links : List (ℕ × ℕ)) (i : ℕ) → i < length links → l ≡ get_or links i l → Ascend links → AllByRecursion (IsLink net) links
      → (text ++ link_lines net w l) ++ flat_map (link_lines net (without l w)) (drop (suc i) links) ≡ text ++ flat_map (link_lines net w) (drop i links)
  told_then text l [] i within at ascend are = absurd (omega (arith, within))
  told_then text l (x ∷ links) zero within at ascend are =
      append_assoc text (link_lines net w l) (flat_map (link_lines net (without l w)) links)
      ∙ ap (λ (ys : List ℕ). text ++ (link_lines net w l ++ ys)) (rw at (all_later x links are.0.0 ascend.0 are.1))
      ∙ ap (λ (y : ℕ × ℕ). text ++ (link_lines net w y ++ flat_map (link_lines net w) links)) at
  told_then text l (x ∷ links) (suc i) within at ascend are = told_then text l links i (omega (arith, within)) at ascend.1 are.1

  -- a link is told, and what waits on it leaves the world
  pub link_told : (text : List ℕ) (l : ℕ × ℕ) (links : List (ℕ × ℕ)) (i : ℕ) → i < length links → l ≡ get_or links i l → Ascend links → AllByRecursion (IsLink net) links
      → (text ++ link_lines net w l) ++ flat_map (link_lines net (without l w)) (drop (i + 1) links) ≡ text ++ flat_map (link_lines net w) (drop i links)
  link_told text l links i within at ascend are =
      ap (λ (k : ℕ). (text ++ link_lines net w l) ++ flat_map (link_lines net (without l w)) (drop k links)) (add-one i) ∙ told_then text l links i within at ascend are

-- the link at a place has two ends
pub ends_apart : (net : PlainNet) (l : ℕ × ℕ) (links : List (ℕ × ℕ)) (i : ℕ) → i < length links → l ≡ get_or links i l → AllByRecursion (IsLink net) links → l.0 < l.1
ends_apart net l [] i within at are = absurd (omega (arith, within))
ends_apart net l (x ∷ links) zero within at are = subst (λ (y : ℕ × ℕ). y.0 < y.1) (sym at) are.0.0
ends_apart net l (x ∷ links) (suc i) within at are = ends_apart net l links i (omega (arith, within)) at are.1
