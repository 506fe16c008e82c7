-- Steps and starts of graphs, as lines say them.
use Rattle.std.specs.Prelude.{◌≡◌, ℕ, ◌+◌, ◌<◌, ◌≤◌, ◌^◌, Bool, ◌&&◌, ◌||◌, ◌==◌, nat_lt, nat_le, IsTrue, List, [], ◌∷◌, ◌++◌, length, map, Some, unwrap_or, slice_get}
use Rattle.std.specs.List.{flat_map}
use Rattle.std.specs.Ordering.{nat_cmp, ordering_then}
use Rattle.std.specs.declared.cmp.Ordering.{Ordering}
use Rattle.net_base.specs.declared.numbers.Tag.{Tag}
use Rattle.net_base.specs.Numbers.{no_tag}
use Rattle.net_base.specs.Prefixes.{PlainPrefix}
use Rattle.graph_base.specs.Graphs.{PlainGraph}
use Rattle.graph_base.specs.Runs.{place_of}
use Rattle.graph_base.specs.Preferences.{number_in}
use Rattle.evidence_base.specs.Made.{PlainCaseEvidence}
use Rattle.config_maker.specs.declared.hop.Hop.{Hop}
use Rattle.config_maker.specs.declared.hop.Announced.{Announced}

abbrev pub tag_in : List Tag → ℕ → Tag
tag_in tags n = unwrap_or (slice_get tags n) no_tag

-- a step of the graph of a class
abbrev pub hop_of : ℕ → PlainGraph → List ℕ → List Tag → ℕ × ℕ → Hop
hop_of class g numbers tags s = record {
  from = place_of g s.0;
  to = place_of g s.1;
  class = class;
  tag = tag_in tags s.0;
  set = tag_in tags s.1;
  pref = number_in numbers s.1;
}

-- the number fits 32 bits
abbrev pub HasPref : Hop → Type 0
HasPref h = h.pref < 2 ^ 32

-- all steps of cases whose classes are counted from k
abbrev pub hops_from : ℕ → List PlainCaseEvidence → List Hop
hops_from k [] = []
hops_from k (c ∷ cs) = map (hop_of k c.graph c.numbers c.tags) c.graph.steps ++ hops_from (k + 1) cs

-- a prefix that a start of a class announces
abbrev pub announced_of : ℕ → ℕ → Tag → PlainPrefix → Announced
announced_of class at tag p = record { at = at; class = class; prefix = p; tag = tag }

-- what a start announces
abbrev pub announced_at : ℕ → List PlainPrefix → PlainGraph → List Tag → ℕ → List Announced
announced_at class prefixes g tags n = map (announced_of class (place_of g n) (tag_in tags n)) prefixes

-- what the starts of the graph of a class announce
abbrev pub announced_by : ℕ → List PlainPrefix → PlainGraph → List Tag → List Announced
announced_by class prefixes g tags = flat_map (announced_at class prefixes g tags) g.starts

abbrev pub announced_from : ℕ → List PlainCaseEvidence → List Announced
announced_from k [] = []
announced_from k (c ∷ cs) = announced_by k c.case.prefixes c.graph c.tags ++ announced_from (k + 1) cs

-- ---- in order

abbrev pub tag_order : Tag → Tag → Ordering
tag_order a b = ordering_then (nat_cmp a.asn b.asn) (nat_cmp a.value b.value)

abbrev pub prefix_order : PlainPrefix → PlainPrefix → Ordering
prefix_order a b = ordering_then (nat_cmp a.bits b.bits) (nat_cmp a.len b.len)

-- by the ends, and then by the class and the tag
abbrev pub hop_order : Hop → Hop → Ordering
hop_order a b =
    ordering_then (nat_cmp a.from b.from)
    (ordering_then (nat_cmp a.to b.to)
    (ordering_then (nat_cmp a.class b.class)
    (ordering_then (tag_order a.tag b.tag) (ordering_then (tag_order a.set b.set) (nat_cmp a.pref b.pref)))))

-- by the location, and then by the class and the prefix
abbrev pub announced_order : Announced → Announced → Ordering
announced_order a b =
    ordering_then (nat_cmp a.at b.at)
    (ordering_then (nat_cmp a.class b.class) (ordering_then (prefix_order a.prefix b.prefix) (tag_order a.tag b.tag)))

-- ---- those of a block

abbrev pub goes : ℕ → ℕ → Hop → Bool
goes from to hop = hop.from == from && hop.to == to

abbrev pub stands : ℕ → Announced → Bool
stands at a = a.at == at

-- a hop stands before those from one location to another, or is one of them or before them
abbrev pub is_before : ℕ → ℕ → Hop → Bool
is_before from to hop = nat_lt hop.from from || (hop.from == from && nat_lt hop.to to)

abbrev pub is_upto : ℕ → ℕ → Hop → Bool
is_upto from to hop = nat_lt hop.from from || (hop.from == from && nat_le hop.to to)

-- each hop in front of a place stands before those from one location to another
abbrev pub IsReached : List Hop → ℕ → ℕ → ℕ → Type 0
IsReached hops place from to = (place ≤ length hops) × ((k : ℕ) (h : Hop) → k < place → slice_get hops k ≡ Some h → IsTrue (is_before from to h))

-- so for the place that stands for each location, and the hops from there to one
abbrev pub AreReached : List Hop → List ℕ → ℕ → Type 0
AreReached hops places to = (from place : ℕ) → slice_get places from ≡ Some place → IsReached hops place from to
