-- The expressions of a ranked expression hold the lists that meet its alternatives.
use Rattle.std.proofs.Common.{◌≡◌, ◌≤◌, ℕ, ◌+◌, length, arith, List, [], ◌∷◌, ◌++◌, map, Bool, true, not, ◌&&◌, ◌||◌, Option, Some, None, refl, sym, ap, ◌∙◌}
use Rattle.std.specs.Prelude.{if◌then◌else◌}
use Rattle.std.specs.List.{list_all, list_any, flat_map}
use Rattle.std.proofs.lemmas.List.{map-append}
use Rattle.std.proofs.Math.Bool.{and-true}
use Rattle.std.proofs.lemmas.Simd.{map-map}
use Rattle.net_base.specs.Network.{PlainNet, IsNet, is_location}
use Rattle.policy_base.specs.declared.call.Call.{Call}
use Rattle.policy_base.specs.Policies.{Ranking, call, calls, prefer, negated}
use Rattle.policy_base.specs.Policies as ranking
use Rattle.policy_base.specs.Meaning.{PathTest, meets, some_test, both_tests, alternatives, place_of, rank_of}
use Rattle.path_exprs.specs.Expression.{Expression, expressions_of}
use Rattle.path_exprs.specs.Membership.{member, some_member}
use Rattle.path_exprs.specs.Runs.{first_with}
use Rattle.path_exprs.specs.Forward.{forward, expressions, both_of_two}
use Rattle.path_law.proofs.CallLaws.{member-forward}

-- what the tests say of a path, and which expressions hold it
abbrev tested : List ℕ → List PathTest → List Bool
tested path tests = map (λ test. test path) tests

abbrev held : List ℕ → List Expression → List Bool
held path es = map (λ e. member e path) es

abbrev some_true : List Bool → Bool
some_true bs = list_any (λ b. b) bs

-- each of the first with each of the second
abbrev pairs : List Bool → List Bool → List Bool
pairs ps qs = flat_map (λ p. map (λ q. p && q) qs) ps

some_member-held : (es : List Expression) (path : List ℕ) → some_member (expressions_of es) path ≡ some_true (held path es)
some_member-held [] path = refl
some_member-held (e ∷ es) path = ap (λ b. member e path || b) (some_member-held es path)

some_test-tested : (tests : List PathTest) (path : List ℕ) → some_test tests path ≡ some_true (tested path tests)
some_test-tested [] path = refl
some_test-tested (t ∷ ts) path = ap (λ b. t path || b) (some_test-tested ts path)

held-row : (e : Expression) (fs : List Expression) (path : List ℕ) → held path (map (both_of_two e) fs) ≡ map (λ q. member e path && q) (held path fs)
held-row e [] path = refl
held-row e (f ∷ fs) path =
    ap (λ l. member (both_of_two e f) path ∷ l) (held-row e fs path)
    ∙ ap (λ b. (member e path && b) ∷ map (λ q. member e path && q) (held path fs)) (and-true (member f path))

held-pairs : (es fs : List Expression) (path : List ℕ) → held path (flat_map (λ e. map (both_of_two e) fs) es) ≡ pairs (held path es) (held path fs)
held-pairs [] fs path = refl
held-pairs (e ∷ es) fs path =
    map-append (λ g. member g path) (map (both_of_two e) fs) (flat_map (λ e. map (both_of_two e) fs) es)
    ∙ ap (λ l. l ++ held path (flat_map (λ e. map (both_of_two e) fs) es)) (held-row e fs path)
    ∙ ap (λ l. map (λ q. member e path && q) (held path fs) ++ l) (held-pairs es fs path)

tested-row : (p : PathTest) (qs : List PathTest) (path : List ℕ) → tested path (map (both_tests p) qs) ≡ map (λ q. p path && q) (tested path qs)
tested-row p [] path = refl
tested-row p (q ∷ qs) path = ap (λ l. (p path && q path) ∷ l) (tested-row p qs path)

tested-pairs : (ps qs : List PathTest) (path : List ℕ) → tested path (flat_map (λ p. map (both_tests p) qs) ps) ≡ pairs (tested path ps) (tested path qs)
tested-pairs [] qs path = refl
tested-pairs (p ∷ ps) qs path =
    map-append (λ t. t path) (map (both_tests p) qs) (flat_map (λ p. map (both_tests p) qs) ps)
    ∙ ap (λ l. l ++ tested path (flat_map (λ p. map (both_tests p) qs) ps)) (tested-row p qs path)
    ∙ ap (λ l. map (λ q. p path && q) (tested path qs) ++ l) (tested-pairs ps qs path)

-- the place of the first true
abbrev first_true : List Bool → ℕ → Option ℕ
first_true [] k = None
first_true (b ∷ bs) k = if b then Some k else first_true bs (k + 1)

place_of-tested : (tests : List PathTest) (path : List ℕ) (k : ℕ) → place_of tests path k ≡ first_true (tested path tests) k
place_of-tested [] path k = refl
place_of-tested (t ∷ ts) path k = ap (λ o. if t path then Some k else o) (place_of-tested ts path (k + 1))

pub first_with-rank : (net : PlainNet) (r : Ranking) (path : List ℕ) → held path (expressions net r) ≡ tested path (alternatives net r) →
    first_with path (expressions net r) ≡ rank_of net r path
first_with-rank net r path h =
    place_of-tested (map member (expressions net r)) path 1
    ∙ ap (λ l. first_true l 1) (map-map (λ t. t path) member (expressions net r) ∙ h)
    ∙ sym (place_of-tested (alternatives net r) path 1)

module _ (net : PlainNet) (rules : IsNet net) (x y : ℕ) (ys : List ℕ) (within : list_all (is_location net) (x ∷ y ∷ ys) ≡ true) where
  abbrev path : List ℕ
  path = x ∷ y ∷ ys

  held-calls : (cs : List Call) → held path (map (forward net) cs) ≡ tested path (map (meets net) cs)
  held-calls [] = refl
  held-calls (c ∷ cs) =
      ap (λ b. b ∷ held path (map (forward net) cs)) (member-forward net rules c x y ys within)
      ∙ ap (λ l. meets net c path ∷ l) (held-calls cs)

  held-append : (a b : Ranking) → held path (expressions net a) ≡ tested path (alternatives net a) → held path (expressions net b) ≡ tested path (alternatives net b) →
      held path (expressions net a ++ expressions net b) ≡ tested path (alternatives net a ++ alternatives net b)
  held-append a b h k =
      map-append (λ e. member e path) (expressions net a) (expressions net b)
      ∙ ap (λ l. l ++ held path (expressions net b)) h ∙ ap (λ l. tested path (alternatives net a) ++ l) k
      ∙ sym (map-append (λ t. t path) (alternatives net a) (alternatives net b))

  some-same : (es : List Expression) (ts : List PathTest) → held path es ≡ tested path ts → some_member (expressions_of es) path ≡ some_test ts path
  some-same es ts h = some_member-held es path ∙ ap some_true h ∙ sym (some_test-tested ts path)

  pub held-expressions : (r : Ranking) → held path (expressions net r) ≡ tested path (alternatives net r)
  held-expressions (call c) = held-calls (c ∷ [])
  held-expressions (calls cs) = held-calls cs
  held-expressions (prefer a b) = held-append a b (held-expressions a) (held-expressions b)
  held-expressions (ranking.both a b) =
      held-pairs (expressions net a) (expressions net b) path
      ∙ ap (λ l. pairs l (held path (expressions net b))) (held-expressions a)
      ∙ ap (λ l. pairs (tested path (alternatives net a)) l) (held-expressions b)
      ∙ sym (tested-pairs (alternatives net a) (alternatives net b) path)
  held-expressions (ranking.either a b) =
      ap (λ t. t ∷ []) (some-same (expressions net a ++ expressions net b) (alternatives net a ++ alternatives net b) (held-append a b (held-expressions a) (held-expressions b)))
  held-expressions (negated a) = ap (λ t. not t ∷ []) (some-same (expressions net a) (alternatives net a) (held-expressions a))

pub held-alternatives : (net : PlainNet) (r : Ranking) (path : List ℕ) → IsNet net → 2 ≤ length path → list_all (is_location net) path ≡ true →
    map (λ e. member e path) (expressions net r) ≡ map (λ test. test path) (alternatives net r)
held-alternatives net r [] rules long within = absurd (omega (arith, long))
held-alternatives net r (x ∷ []) rules long within = absurd (omega (arith, long))
held-alternatives net r (x ∷ y ∷ ys) rules long within = held-expressions net rules x y ys within r
