-- Evidence is read again from its text.
use Rattle.std.proofs.Common.{◌≡◌, ◌≢◌, ℕ, zero, suc, ◌+◌, ◌<◌, ◌≤◌, ◌^◌, Bool, true, false, List, [], ◌∷◌, length, map, Option, Some, None, Result, Ok, refl, sym, ap, ◌∙◌, arith, map-id}
use Rattle.std.specs.Prelude.{codes, nat_lt, ◌&&◌, ◌==◌, unwrap_or, if◌then◌else◌}
use Rattle.std.specs.List.{AllByRecursion, list_all}
use Rattle.std.proofs.lemmas.Bool.{le-leb, lt-ltb, ne_eqb}
use Rattle.std.proofs.lemmas.List.{length-map}
use Rattle.json_values.proofs.JsonLists.{list_of-items_of}
use Rattle.json_values.proofs.ReadAgain.{json_of-line}
use Rattle.serde_json.specs.Data.{boolean, number, string, unsigned}
use Rattle.serde_json.specs.Find.{get}
use Rattle.serde_json.proofs.OnLiterals.{serde_json_on_literals}
use Rattle.list_law.proofs.Each.{AllByRecursion-weaker}
use Rattle.net_base.specs.declared.loc.LocSet.{LocSet}
use Rattle.evidence_text.specs.declared.parts.Field.{Field}
use Rattle.evidence_text.specs.declared.parts.Field.TheVariants as field
use Rattle.net_base.specs.declared.numbers.Tag.{Tag}
use Rattle.net_base.specs.Prefixes.{PlainPrefix, IsPrefix}
use Rattle.net_base.specs.Steps.{each_from, or_fault}
use Rattle.text_parts.specs.Texts.{prefix_text}
use Rattle.text_parts.proofs.PrefixTexts.{prefix_spelled-prefix_text}
use Rattle.graph_base.specs.declared.graph.Node.{Node}
use Rattle.evidence_base.specs.Made.{PlainCaseEvidence}
use Rattle.evidence_text.specs.declared.fault.EvidenceFault.{EvidenceFault}
use Rattle.evidence_text.specs.declared.fault.EvidenceFault.TheVariants.{Number}
use Rattle.evidence_text.specs.declared.raw.NodeEntry.{NodeEntry}
use Rattle.evidence_text.specs.declared.raw.RawCase.{RawCase}
use Rattle.evidence_text.specs.declared.raw.RawEvidence.{RawEvidence}
use Rattle.evidence_text.specs.declared.raw.RawPlaces.{RawPlaces}
use Rattle.evidence_text.specs.declared.raw.RawWays.{RawWays}
use Rattle.evidence_text.specs.declared.raw.ReadText.{ReadText}
use Rattle.evidence_text.specs.declared.raw.ReadCase.{ReadCase}
use Rattle.evidence_text.specs.Entries.{entry, pair, rank_of}
use Rattle.evidence_text.specs.Shape.{each, greatest, number_of, number_at, row_of, node_of, step_of, prefix_of, origins_of, prefix_or}
use Rattle.evidence_text.specs.Shape.{begins_as_case, is_case, is_evidence, list_of, places_of, ways_of, case_of, version_of, shape_of}
use Rattle.evidence_text.specs.Spelled.{numbered_case, numbered, is_placed, evidence_of, spelled}
use Rattle.evidence_text.specs.Text.{members, case_data, evidence_data, evidence_text, node_data, nodes_data, step_data}
use Rattle.evidence_text.specs.Writable.{IsWritable}
use Rattle.evidence_text.proofs.Items.{prefix_data, texts-prefixes}
use Rattle.evidence_text.proofs.PlainText.{mark_low, plain_text, text_depth}
use Rattle.evidence_text.proofs.TextLaws.{spelled_as}
use Rattle.evidence_text.proofs.SetMembers.{members_in_order, members_below, set_of_members}

-- what is read of items that are written
each_map : {A B C : Type 0} (P : A → Type 0) (f : B → Result C EvidenceFault) (g : A → B) (h : A → C) → ((x : A) → P x → f (g x) ≡ Ok (h x))
    → (k : ℕ) (xs : List A) → AllByRecursion P xs → each_from (λ _. f) k (map g xs) ≡ Ok (map h xs)
each_map P f g h one k [] all = refl
each_map P f g h one k (x ∷ xs) all = rw (one x all.0, each_map P f g h one (k + 1) xs all.1) refl

pub all_some : {A : Type 0} (e : EvidenceFault) (k : ℕ) (xs : List A) → each_from (λ _. or_fault e) k (map (λ x. Some x) xs) ≡ Ok xs
all_some e k [] = refl
all_some e k (x ∷ xs) = rw (all_some e (k + 1) xs) refl

number_ok : (f : Field) (least most n : ℕ) → least ≤ n → n ≤ most → number_of f least most (number (unsigned n)) ≡ Ok (Some n)
unfolding number_of
number_ok f least most n low high = rw (le-leb least n low, le-leb n most high) refl

-- ---- nodes

mark : (b : Bool) → ((if b then 1 else 0) == 1) ≡ b
mark true = refl
mark false = refl

rank_again : (r : Option ℕ) → r ≢ Some 0 → rank_of (unwrap_or r 0) ≡ r
rank_again None h = refl
rank_again (Some zero) h = absurd (h refl)
rank_again (Some (suc n)) h = rw (ne_eqb (suc n) 0 (λ e. omega (arith, e))) refl

IsWritten : Node → ℕ → Tag → Type 0
IsWritten v n tag = (v.loc < 768) × (v.rank ≢ Some 0) × (unwrap_or v.rank 0 < 4294967296) × (n < 4294967296) × (tag.asn < 4294967296) × (tag.value < 4294967296)

node_again : (v : Node) (n : ℕ) (tag : Tag) → IsWritten v n tag → node_of (node_data v n tag) ≡ Ok (Some (record { node = v; number = n; tag = tag }))
unfolding node_of row_of number_at entry IsWritten
node_again v n tag h =
    rw (
      number_ok field.Nodes 0 767 v.loc (omega arith) (omega (arith, h.0)),
      number_ok field.Nodes 0 1 (if v.listener then 1 else 0) (omega arith) (mark_low v.listener),
      number_ok field.Nodes 0 greatest (unwrap_or v.rank 0) (omega arith) (omega (arith, h.2)),
      number_ok field.Nodes 0 greatest n (omega arith) (omega (arith, h.3)),
      number_ok field.Nodes 0 greatest tag.asn (omega arith) (omega (arith, h.4)),
      number_ok field.Nodes 0 greatest tag.value (omega arith) (omega (arith, h.5)),
      mark v.listener,
      rank_again v.rank h.1,
    )
    refl

pub entries : List Node → List ℕ → List Tag → List NodeEntry
entries [] ns tags = []
entries (v ∷ vs) [] tags = []
entries (v ∷ vs) (n ∷ ns) [] = []
entries (v ∷ vs) (n ∷ ns) (tag ∷ tags) = record { node = v; number = n; tag = tag } ∷ entries vs ns tags

pub entries_nodes : (vs : List Node) (ns : List ℕ) (tags : List Tag) → length ns ≡ length vs → length tags ≡ length vs → map (λ (e : NodeEntry). e.node) (entries vs ns tags) ≡ vs
unfolding entries
entries_nodes [] ns tags a b = refl
entries_nodes (v ∷ vs) [] tags a b = absurd (omega arith)
entries_nodes (v ∷ vs) (n ∷ ns) [] a b = absurd (omega arith)
entries_nodes (v ∷ vs) (n ∷ ns) (tag ∷ tags) a b = ap (λ xs. v ∷ xs) (entries_nodes vs ns tags (omega arith) (omega arith))

pub entries_numbers : (vs : List Node) (ns : List ℕ) (tags : List Tag) → length ns ≡ length vs → length tags ≡ length vs → map (λ (e : NodeEntry). e.number) (entries vs ns tags) ≡ ns
unfolding entries
entries_numbers [] [] tags a b = refl
entries_numbers [] (n ∷ ns) tags a b = absurd (omega arith)
entries_numbers (v ∷ vs) [] tags a b = absurd (omega arith)
entries_numbers (v ∷ vs) (n ∷ ns) [] a b = absurd (omega arith)
entries_numbers (v ∷ vs) (n ∷ ns) (tag ∷ tags) a b = ap (λ xs. n ∷ xs) (entries_numbers vs ns tags (omega arith) (omega arith))

pub entries_tags : (vs : List Node) (ns : List ℕ) (tags : List Tag) → length ns ≡ length vs → length tags ≡ length vs → map (λ (e : NodeEntry). e.tag) (entries vs ns tags) ≡ tags
unfolding entries
entries_tags [] ns [] a b = refl
entries_tags [] ns (tag ∷ tags) a b = absurd (omega arith)
entries_tags (v ∷ vs) [] tags a b = absurd (omega arith)
entries_tags (v ∷ vs) (n ∷ ns) [] a b = absurd (omega arith)
entries_tags (v ∷ vs) (n ∷ ns) (tag ∷ tags) a b = ap (λ xs. tag ∷ xs) (entries_tags vs ns tags (omega arith) (omega arith))

nodes_again : (k : ℕ) (vs : List Node) (ns : List ℕ) (tags : List Tag)
    → AllByRecursion (λ (v : Node). v.loc < 768) vs → AllByRecursion (λ (v : Node). v.rank ≢ Some 0) vs → AllByRecursion (λ (v : Node). unwrap_or v.rank 0 < 2 ^ 32) vs
    → AllByRecursion (λ n. n < 2 ^ 32) ns → AllByRecursion (λ (t : Tag). (t.asn < 2 ^ 32) × (t.value < 2 ^ 32)) tags
    → each_from (λ _. node_of) k (nodes_data vs ns tags) ≡ Ok (map (λ e. Some e) (entries vs ns tags))
unfolding entries IsWritten
nodes_again k [] ns tags a b c d e = refl
nodes_again k (v ∷ vs) [] tags a b c d e = refl
nodes_again k (v ∷ vs) (n ∷ ns) [] a b c d e = refl
nodes_again k (v ∷ vs) (n ∷ ns) (tag ∷ tags) a b c d e =
    rw (node_again v n tag (a.0, b.0, c.0, d.0, e.0.0, e.0.1), nodes_again (k + 1) vs ns tags a.1 b.1 c.1 d.1 e.1) refl

-- ---- the other parts

step_again : (s : ℕ × ℕ) → (s.0 < 4294967000) × (s.1 < 4294967000) → step_of (step_data s) ≡ Ok (Some s)
unfolding step_of row_of number_at pair
step_again s h = rw (number_ok field.Steps 0 greatest s.0 (omega arith) (omega (arith, h.0)), number_ok field.Steps 0 greatest s.1 (omega arith) (omega (arith, h.1))) refl

prefix_again : (p : PlainPrefix) → IsPrefix p → prefix_of (string (prefix_text p)) ≡ Ok p
unfolding prefix_of
prefix_again p is = ap prefix_or (prefix_spelled-prefix_text p is)

numbers_again : (f : Field) (most : ℕ) (ns : List ℕ) → AllByRecursion (λ n. n ≤ most) ns → each (number_of f 0 most) (map (λ n. number (unsigned n)) ns) ≡ Ok (map (λ n. Some n) ns)
numbers_again f most ns small = each_map (λ n. n ≤ most) (number_of f 0 most) (λ n. number (unsigned n)) (λ n. Some n) (λ n low. number_ok f 0 most n (omega arith) low) 1 ns small

-- ---- a case whose numbers are judged

pub raw_case : PlainCaseEvidence → RawCase
raw_case c = record {
  external = c.case.external;
  nodes = map (λ e. Some e) (entries c.graph.nodes c.numbers c.tags);
  origins = map (λ n. Some n) (members c.case.origins);
  prefixes = c.case.prefixes;
  starts = map (λ n. Some n) c.graph.starts;
  statement = Some c.case.statement;
  steps = map (λ s. Some s) c.graph.steps;
}

pub read_case : PlainCaseEvidence → ReadCase
read_case c = record { case = c.case; nodes = entries c.graph.nodes c.numbers c.tags; starts = c.graph.starts; steps = c.graph.steps }

pub numbered_again : (c : PlainCaseEvidence) → IsWritable c → numbered_case (raw_case c) ≡ Ok (read_case c)
unfolding numbered_case raw_case read_case
numbered_again c is =
    rw (
      all_some (Number field.Nodes) 1 (entries c.graph.nodes c.numbers c.tags),
      all_some (Number field.Origins) 1 (members c.case.origins),
      all_some (Number field.Starts) 1 c.graph.starts,
      all_some (Number field.Steps) 1 c.graph.steps,
      set_of_members c.case.origins is.origins,
    )
    refl

prefixes_again : (ps : List PlainPrefix) → AllByRecursion IsPrefix ps → each prefix_of (map string (map prefix_text ps)) ≡ Ok ps
prefixes_again ps are = ap (each prefix_of) (texts-prefixes ps) ∙ each_map IsPrefix prefix_of prefix_data (λ p. p) prefix_again 1 ps are ∙ ap Ok (map-id ps)

origins_again : (s : LocSet) → origins_of (map (λ n. number (unsigned n)) (members s)) ≡ Ok (map (λ n. Some n) (members s))
unfolding origins_of
origins_again s =
    rw (numbers_again field.Origins 767 (members s) (AllByRecursion-weaker (λ l. l < 768) (λ l. l ≤ 767) (members s) (λ l low. omega (arith, low)) (members_below s)), members_in_order s) refl

-- the nodes, origins and prefixes of a case, and its starts, statement and steps
pub raw_places : PlainCaseEvidence → RawPlaces
raw_places c = record { nodes = map (λ e. Some e) (entries c.graph.nodes c.numbers c.tags); origins = map (λ n. Some n) (members c.case.origins); prefixes = c.case.prefixes }

pub raw_ways : PlainCaseEvidence → RawWays
raw_ways c = record { starts = map (λ n. Some n) c.graph.starts; statement = Some c.case.statement; steps = map (λ s. Some s) c.graph.steps }

places_again : (c : PlainCaseEvidence) → IsWritable c → places_of (case_data c) ≡ Ok (raw_places c)
unfolding places_of case_data list_of raw_places serde_json_on_literals
places_again c is =
    rw (
      list_of-items_of (nodes_data c.graph.nodes c.numbers c.tags),
      nodes_again 1 c.graph.nodes c.numbers c.tags is.rules.places is.rules.ranks is.ranks is.numbers is.tags,
      list_of-items_of (map (λ n. number (unsigned n)) (members c.case.origins)),
      origins_again c.case.origins,
      list_of-items_of (map string (map prefix_text c.case.prefixes)),
      prefixes_again c.case.prefixes is.prefixes,
    )
    refl

ways_again : (c : PlainCaseEvidence) → IsWritable c → ways_of (case_data c) ≡ Ok (raw_ways c)
unfolding ways_of case_data list_of raw_ways serde_json_on_literals
ways_again c is =
    let count = is.graph.count in
    rw (
      list_of-items_of (map (λ n. number (unsigned n)) c.graph.starts),
      numbers_again field.Starts greatest c.graph.starts
          (AllByRecursion-weaker (λ n. n < length c.graph.nodes) (λ n. n ≤ greatest) c.graph.starts (λ n low. omega (arith, low, count)) is.graph.starts),
      number_ok field.Statement 1 greatest c.case.statement is.rules.stated (omega (arith, is.statement)),
      list_of-items_of (map step_data c.graph.steps),
      each_map (λ (s : ℕ × ℕ). (s.0 < length c.graph.nodes) × (s.1 < length c.graph.nodes)) step_of step_data (λ s. Some s)
          (λ s low. step_again s (omega (arith, low.0, count), omega (arith, low.1, count))) 1 c.graph.steps is.graph.steps,
    )
    refl

-- what stands beside the nodes and steps of a case
case_opens : (c : PlainCaseEvidence) → (is_case (case_data c) ≡ true) × (get (codes "external") (case_data c) ≡ Some (boolean c.case.external))
unfolding case_data begins_as_case is_case serde_json_on_literals
case_opens c = (refl, refl)

case_again : (c : PlainCaseEvidence) → IsWritable c → case_of (case_data c) ≡ Ok (raw_case c)
unfolding case_of raw_case raw_places raw_ways
case_again c is = rw ((case_opens c).0, (case_opens c).1, places_again c is, ways_again c is) refl

-- ---- the whole text

cases_again : (cs : List PlainCaseEvidence) → AllByRecursion IsWritable cs → each case_of (map case_data cs) ≡ Ok (map raw_case cs)
cases_again cs are = each_map IsWritable case_of case_data raw_case case_again 1 cs are

all_numbered : (cs : List PlainCaseEvidence) → AllByRecursion IsWritable cs → each numbered_case (map raw_case cs) ≡ Ok (map read_case cs)
all_numbered cs are = each_map IsWritable numbered_case raw_case read_case numbered_again 1 cs are

raw_text : List PlainCaseEvidence → RawEvidence
raw_text cs = record { cases = map raw_case cs; version = Some 1 }

read_text : List PlainCaseEvidence → ReadText
read_text cs = record { cases = map read_case cs; version = 1 }

shape_again : (cs : List PlainCaseEvidence) → AllByRecursion IsWritable cs → shape_of (evidence_data cs) ≡ Ok (raw_text cs)
unfolding shape_of version_of evidence_data is_evidence list_of raw_text serde_json_on_literals
shape_again cs are =
    rw (list_of-items_of (map case_data cs), cases_again cs are, number_ok field.Version 0 greatest 1 (omega arith) (omega arith)) refl

text_again : (cs : List PlainCaseEvidence) → AllByRecursion IsWritable cs → numbered (raw_text cs) ≡ Ok (read_text cs)
unfolding numbered raw_text read_text
text_again cs are = rw (all_numbered cs are) refl

entries_size : (vs : List Node) (ns : List ℕ) (tags : List Tag) → length ns ≡ length vs → length tags ≡ length vs → length (entries vs ns tags) ≡ length vs
entries_size vs ns tags a b = sym (length-map (entries vs ns tags) (λ (e : NodeEntry). e.node)) ∙ ap length (entries_nodes vs ns tags a b)

all_tested : {A : Type 0} (P : A → Type 0) (p : A → Bool) → ((x : A) → P x → p x ≡ true) → (xs : List A) → AllByRecursion P xs → list_all p xs ≡ true
all_tested P p one [] all = refl
all_tested P p one (x ∷ xs) all = rw (one x all.0, all_tested P p one xs all.1) refl

placed_again : (c : PlainCaseEvidence) → IsWritable c → is_placed (read_case c) ≡ true
unfolding read_case
placed_again c is =
    let n = length c.graph.nodes in
    rw (
      entries_size c.graph.nodes c.numbers c.tags is.rules.sized is.rules.tagged,
      all_tested (λ k. k < n) (λ k. nat_lt k n) (λ k low. lt-ltb k n low) c.graph.starts is.graph.starts,
      all_tested (λ (s : ℕ × ℕ). (s.0 < n) × (s.1 < n)) (λ (s : ℕ × ℕ). nat_lt s.0 n && nat_lt s.1 n) (λ s low. rw (lt-ltb s.0 n low.0, lt-ltb s.1 n low.1) refl) c.graph.steps is.graph.steps,
    )
    refl

all_placed : (cs : List PlainCaseEvidence) → AllByRecursion IsWritable cs → list_all is_placed (map read_case cs) ≡ true
all_placed [] are = refl
all_placed (c ∷ cs) are = rw (placed_again c are.0, all_placed cs are.1) refl

made_again : (c : PlainCaseEvidence) → IsWritable c → evidence_of (read_case c) ≡ c
unfolding read_case
made_again c is =
    let vs = c.graph.nodes in
    rw (
      entries_nodes vs c.numbers c.tags is.rules.sized is.rules.tagged,
      entries_numbers vs c.numbers c.tags is.rules.sized is.rules.tagged,
      entries_tags vs c.numbers c.tags is.rules.sized is.rules.tagged,
    )
    refl

all_made : (cs : List PlainCaseEvidence) → AllByRecursion IsWritable cs → map evidence_of (map read_case cs) ≡ cs
all_made [] are = refl
all_made (c ∷ cs) are = λ i. made_again c are.0 i ∷ all_made cs are.1 i

-- ---- the whole text is read

pub read_again : (cs : List PlainCaseEvidence) → AllByRecursion IsWritable cs → spelled (evidence_text cs) ≡ Ok cs
unfolding read_text
read_again cs are =
    spelled_as (evidence_text cs) (evidence_data cs) (raw_text cs) (read_text cs) (json_of-line (evidence_data cs) (plain_text cs are) (text_depth cs)) (shape_again cs are) (text_again cs are)
    (all_placed cs are) refl
    ∙ ap Ok (all_made cs are)
