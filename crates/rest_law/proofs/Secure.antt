-- The router that is next to settle where ties are free is secure with the first of what it's given, where routes have their length for a size.
use Rattle.std.proofs.Common.{◌≡◌, ℕ, ◌<◌, ◌⊎◌, inl, inr, ⊎_elim, List, length, None, sym, ◌∙◌, arith}
use Rattle.routing_law.specs.Graph.{WellFormed}
use Rattle.routing_law.specs.Outcome.{NoLater, Route, Routes, Setup, heard}
use Rattle.routing_law.proofs.Rules.{Everywhere}
use Rattle.routing_law.proofs.Sound.{Backed}
use Rattle.rest_law.specs.SecureLaws.{SomeoneIsSecure}
use Rattle.rest_law.specs.Sizes.{IsNext}
use Rattle.rest_law.specs.Partial.{IsSecure}
use Rattle.rest_law.proofs.First.{First, first_of}
use Rattle.rest_law.proofs.Next.{Quiet as QuietAt, next_secure as some_next, some_router_is_next}
use Rattle.rest_law.proofs.Order.{chained, itself, total}
use Rattle.rest_law.proofs.Search.{in_length}
pub use Rattle.rest_law.proofs.Next.{backed_of, giver_below}

module _ (w : Setup) (wf : WellFormed w.net w.graph) (r : Routes) (bk : Backed w r) where
  abbrev len : List ℕ → ℕ
  len p = length p

  abbrev pub Quiet : ℕ → Type 0
  Quiet b = QuietAt w len (in_length w) wf r bk b

  abbrev FirstOf : ℕ → Type 0
  FirstOf b = First (NoLater w) (itself w) (total w) (chained w) (heard w r b) w.net.size

  -- the first of what is given ties with what is next, or comes before it by name alone
  secure : (b : ℕ) (x : Route) → IsNext w len r b x → (f : FirstOf b) → IsSecure w r b f.route
  secure b x n f = record {
    is_open = n.is_open;
    from = f.from;
    gives = f.gives;
    firm = record {
      first = λ u y h. f.first u y (giver_below w wf r bk b u y h) h;
      before = λ y d.
          let ahead = f.first n.from x (giver_below w wf r bk b n.from x n.gives) n.gives in
          let behind = n.first f.from f.route f.gives in
          let a = ahead.number in
          let c = behind.number in
          let l = ahead.fewer (omega (arith, a, c)) in
          ⊎_elim (λ s. inl (omega (arith, s, a, c))) (λ s. (let s0 = s.0 in let s1 = s.1 in inr (omega (arith, s0, a, c), omega (arith, s1, l)))) (n.before y d);
    };
  }

  pub is_secure : (b : ℕ) (x : Route) → IsNext w len r b x → (y : Route) × IsSecure w r b y
  is_secure b x n = by (first_of (NoLater w) (itself w) (total w) (chained w) (heard w r b) w.net.size)
    where
      by : ((u : ℕ) → u < w.net.size → heard w r b u ≡ None) ⊎ FirstOf b → (y : Route) × IsSecure w r b y
      by (inl none) = (let z = sym (none n.from (giver_below w wf r bk b n.from x n.gives)) ∙ n.gives in absurd (cc))
      by (inr f) = (f.route, secure b x n f)

  pub next_secure : Everywhere w.net w.graph → (b : ℕ) → Quiet b ⊎ ((z : ℕ) × (y : Route) × IsSecure w r z y)
  next_secure ev b = by (some_next w len (in_length w) wf r bk ev b)
    where
      by : Quiet b ⊎ ((z : ℕ) × (x : Route) × IsNext w len r z x) → Quiet b ⊎ ((z : ℕ) × (y : Route) × IsSecure w r z y)
      by (inl quiet) = inl quiet
      by (inr n) = (let s = is_secure n.0 n.1 n.2 in inr (n.0, s.0, s.1))

pub some_router_is_secure : SomeoneIsSecure
some_router_is_secure w r wf rules ps v u x o h =
    let n = some_router_is_next w (λ p. length p) r (in_length w) wf rules ps v u x o h in
    let s = is_secure w wf r (backed_of w r ps) n.0 n.1 n.2 in
    (n.0, s.0, s.1)
