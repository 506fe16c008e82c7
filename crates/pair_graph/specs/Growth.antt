-- Pairs as they are found in breadth-first order, and the steps between them.
use Rattle.std.specs.Prelude.{◌≡◌, ◌⊎◌, ℕ, ◌<◌, ◌≤◌, ◌==◌, ◌&&◌, List, Option, Some, IsTrue, length, slice_get, slice_index_or}
use Rattle.std.specs.List.{list_any}
use Rattle.graph_base.specs.declared.graph.TheConstants.{MAX_NODES}
use Rattle.pair_graph.specs.declared.pair.NodePair.{NodePair}

-- node m is asked at location i before node k is at location l
abbrev pub IsEarlier : ℕ → ℕ → ℕ → ℕ → Type 0
IsEarlier m i k l = (m < k) ⊎ ((m ≡ k) × (i < l))

-- a step leads from m to n
abbrev pub links : List (ℕ × ℕ) → ℕ → ℕ → Type 0
links steps m n = IsTrue (list_any (λ (s : ℕ × ℕ). s.0 == m && s.1 == n) steps)

-- the one from which a node was found
abbrev pub finder : List ℕ → ℕ → ℕ
finder before n = slice_index_or before n 0

-- How walks of pairs go: where they start and how they go on.
pub record Walks : Type 0 where
  pub start : ℕ → Option NodePair
  pub next : NodePair → ℕ → Option NodePair

-- at a location they lead to a pair there
pub record AreWalks (w : Walks) : Type 0 where
  pub starts : (l : ℕ) (x : NodePair) → w.start l ≡ Some x → x.place ≡ l
  pub steps : (x : NodePair) (l : ℕ) (y : NodePair) → w.next x l ≡ Some y → y.place ≡ l

-- a step leads from one pair to another at the location of the other
pub record IsLink (w : Walks) (pairs : List NodePair) (k l m n : ℕ) : Type 0 where
  pub from : NodePair
  pub to : NodePair
  pub at_from : slice_get pairs m ≡ Some from
  pub at_to : slice_get pairs n ≡ Some to
  pub goes : w.next from to.place ≡ Some to
  pub asked : IsEarlier m to.place k l

-- a pair was found from the first node that steps to it
pub record IsFound (w : Walks) (before : List ℕ) (steps : List (ℕ × ℕ)) (k l n : ℕ) (y : NodePair) : Type 0 where
  pub step : links steps (finder before n) n
  pub less : finder before n < n
  pub asked : IsEarlier (finder before n) y.place k l
  pub least : (m : ℕ) → links steps m n → finder before n ≤ m

-- The pairs below k were asked at all locations, and k at those below l. The first `starts` pairs are starts.
pub record IsGrown (w : Walks) (starts : ℕ) (pairs : List NodePair) (before : List ℕ) (steps : List (ℕ × ℕ)) (k l : ℕ) : Type 0 where
  pub few : length pairs ≤ MAX_NODES
  pub size : length before ≡ length pairs
  pub begun : starts ≤ length pairs
  pub start : (n : ℕ) (x : NodePair) → n < starts → slice_get pairs n ≡ Some x → w.start x.place ≡ Some x
  pub all_starts : (i : ℕ) (x : NodePair) → w.start i ≡ Some x → (n : ℕ) × (n < starts) × (slice_get pairs n ≡ Some x)
  pub start_order : (m n : ℕ) (x y : NodePair) → m < n → n < starts → slice_get pairs m ≡ Some x → slice_get pairs n ≡ Some y → x.place < y.place
  pub link : (m n : ℕ) → links steps m n → IsLink w pairs k l m n
  pub all_links : (m i : ℕ) (x y : NodePair) → slice_get pairs m ≡ Some x → IsEarlier m i k l → w.next x i ≡ Some y → (n : ℕ) × links steps m n × (slice_get pairs n ≡ Some y)
  pub found : (n : ℕ) (y : NodePair) → starts ≤ n → slice_get pairs n ≡ Some y → IsFound w before steps k l n y
  pub apart : (m n : ℕ) (x : NodePair) → slice_get pairs m ≡ Some x → slice_get pairs n ≡ Some x → m ≡ n
  pub steps_order : (i j : ℕ) (s t : ℕ × ℕ) (y z : NodePair) → i < j → slice_get steps i ≡ Some s → slice_get steps j ≡ Some t → slice_get pairs s.1 ≡ Some y → slice_get pairs t.1 ≡ Some z
      → IsEarlier s.0 y.place t.0 z.place
  pub order : (m n : ℕ) (y z : NodePair) → starts ≤ m → m < n → slice_get pairs m ≡ Some y → slice_get pairs n ≡ Some z
      → IsEarlier (finder before m) y.place (finder before n) z.place

-- Pair y has the number n: it is there, or it is put behind the others, as found from k.
pub record IsExtended (pairs : List NodePair) (before : List ℕ) (k : ℕ) (y : NodePair) (n : ℕ) (more : List NodePair) (later : List ℕ) : Type 0 where
  pub few : length more ≤ MAX_NODES
  pub size : length later ≡ length more
  pub longer : length pairs ≤ length more
  pub kept : (m : ℕ) (x : NodePair) → slice_get pairs m ≡ Some x → slice_get more m ≡ Some x
  pub finders : (m : ℕ) → m < length pairs → finder later m ≡ finder before m
  pub number : slice_get more n ≡ Some y
  pub new : (m : ℕ) (x : NodePair) → slice_get more m ≡ Some x → (slice_get pairs m ≡ Some x) ⊎ ((m ≡ length pairs) × (x ≡ y) × (m ≡ n) × (finder later m ≡ k) × ((j : ℕ) → slice_get pairs j ≡ Some x → ⊥))
