-- What every event keeps.
use Rattle.std.specs.Prelude.{◌≡◌, ℕ, Bool, true, false, ◌||◌, ◌==◌, List, [], ◌∷◌, Option, None, if◌then◌else◌}
use Rattle.event_base.specs.World.{Speakers, World, live, running, choice, exported}

module _ {R : Type 0} (net : Speakers R) where
  abbrev pub last_of : List (Option R) → Option R → Option R
  last_of [] m = m
  last_of (x ∷ xs) m = last_of xs x

  -- skip: the routers that have still to choose; due: the directions that have still to be told
  pub record Keeps (skip : ℕ → Bool) (due : ℕ → ℕ → Bool) (w : World R) : Type 0 where
    -- a link is cut both ways
    pub both : (a b : ℕ) → w.cut a b ≡ w.cut b a
    -- on a live session the last message of the queue, or what was heard where it's empty, is what was last queued
    pub last : (a b : ℕ) → live net w a b ≡ true → last_of (w.queue a b) (w.heard a b) ≡ w.queued a b
    -- which is what the sender's lines give of its present route
    pub told : (a b : ℕ) → live net w a b ≡ true → due a b ≡ false → w.queued a b ≡ exported net w a b
    -- a router's route is its choice over what it has heard
    pub chosen : (r : ℕ) → skip r ≡ false → w.route r ≡ choice net w r
    -- who isn't a router that is up has no route
    pub idle : (r : ℕ) → running net w r ≡ false → w.route r ≡ None
    -- a session that isn't live is empty and forgotten
    pub empty : (a b : ℕ) → live net w a b ≡ false → (w.queue a b ≡ []) × (w.heard a b ≡ None) × (w.queued a b ≡ None)

  abbrev pub nobody : ℕ → Bool
  nobody r = false

  abbrev pub nowhere : ℕ → ℕ → Bool
  nowhere a b = false

  abbrev pub IsKept : World R → Type 0
  IsKept w = Keeps nobody nowhere w

  -- what a receives over a live session from u at rest
  abbrev pub given : World R → ℕ → ℕ → Option R
  given w r u = if live net w u r then exported net w u r else None

  -- each router that is up holds its choice over what its neighbours' present routes give
  abbrev pub IsStable : World R → Type 0
  IsStable w = (r : ℕ) → running net w r ≡ true → w.route r ≡ net.choose r (given w r)

abbrev pub among : List ℕ → ℕ → Bool
among [] x = false
among (y ∷ ys) x = x == y || among ys x

-- a router's neighbours are listed, and `same` tells routes apart
pub record AreSpeakers {R : Type 0} (net : Speakers R) : Type 0 where
  pub near : (r u : ℕ) → net.linked r u ≡ true → among (net.neighbours r) u ≡ true
  pub apart : (a b : Option R) → net.same a b ≡ true → a ≡ b
