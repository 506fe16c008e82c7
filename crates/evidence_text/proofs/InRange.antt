-- What is read of numbers is in their ranges.
use Rattle.std.proofs.Common.{◌≡◌, ◌≢◌, ℕ, ◌+◌, ◌<◌, ◌≤◌, true, List, [], ◌∷◌, Option, Some, None, Result, Ok, Err, refl, sym, ◌∙◌, subst, arith, length}
use Rattle.std.specs.Prelude.{◌&&◌, ◌==◌, codes, IfOk, nat_le, nat_lt}
use Rattle.std.specs.List.{AllByRecursion, list_all}
use Rattle.std.specs.Option.{ForSome}
use Rattle.std.proofs.lemmas.Bool.{and_parts, eqb-false, leb-true, ltb-true}
use Rattle.std.proofs.lemmas.List.{length-map}
use Rattle.list_law.proofs.Each.{AllByRecursion-map, AllByRecursion-weaker, AllByRecursion-from_list_all}
use Rattle.list_law.proofs.Options.{option_and_then_parts, when_parts, unless_parts}
use Rattle.serde_json.specs.Data.{Data}
use Rattle.serde_json.specs.Find.{as_number, as_bool, as_u64}
use Rattle.net_base.specs.Steps.{◌>>=◌, each_from, or_fault, unless}
use Rattle.evidence_text.specs.declared.parts.Field.{Field}
use Rattle.evidence_text.specs.declared.parts.Field.TheVariants as field
use Rattle.graph_base.specs.Graphs.{IsGraph}
use Rattle.evidence_base.specs.Evidence.{IsCaseEvidence}
use Rattle.evidence_text.specs.declared.fault.EvidenceFault.{EvidenceFault}
use Rattle.evidence_text.specs.declared.fault.EvidenceFault.TheVariants.{Shape, Number}
use Rattle.evidence_text.specs.declared.raw.NodeEntry.{NodeEntry}
use Rattle.evidence_text.specs.declared.raw.RawCase.{RawCase}
use Rattle.evidence_text.specs.declared.raw.RawEvidence.{RawEvidence}
use Rattle.evidence_text.specs.declared.raw.RawPlaces.{RawPlaces}
use Rattle.evidence_text.specs.declared.raw.RawWays.{RawWays}
use Rattle.evidence_text.specs.declared.raw.ReadCase.{ReadCase}
use Rattle.evidence_text.specs.declared.raw.ReadText.{ReadText}
use Rattle.evidence_text.specs.Entries.{entry, rank_of, within}
use Rattle.evidence_text.specs.Ranges.{IsEntry, HasRanges, IsReadCase}
use Rattle.evidence_text.specs.Shape.{each, number_of, number_at, node_of, origins_of, member_of, list_of, row_of, prefix_of, step_of}
use Rattle.evidence_text.specs.Shape.{are_in_order, is_case, is_evidence, places_of, ways_of, case_of, version_of, shape_of, greatest}
use Rattle.evidence_text.specs.Spelled.{numbered_case, numbered, is_placed, evidence_of}

-- what a chain of steps gives has a property, where each way to its end gives it
pub on_ok : {A B : Type 0} (P : B → Type 0) (r : Result A EvidenceFault) (f : A → Result B EvidenceFault) → ((x : A) → r ≡ Ok x → IfOk (f x) P) → IfOk (r >>= f) P
on_ok P (Ok x) f h = h x refl
on_ok P (Err e) f h = tt

pub of_ok : {A : Type 0} (P : A → Type 0) (r : Result A EvidenceFault) (x : A) → IfOk r P → r ≡ Ok x → P x
of_ok P r x all is = rw is at all

ok_weaker : {A : Type 0} (P Q : A → Type 0) (r : Result A EvidenceFault) → ((x : A) → P x → Q x) → IfOk r P → IfOk r Q
ok_weaker P Q (Ok x) f h = f x h
ok_weaker P Q (Err e) f h = tt

each_ok_from : {A B : Type 0} (P : A → Type 0) (Q : B → Type 0) (f : A → Result B EvidenceFault) → ((x : A) → P x → IfOk (f x) Q) → (k : ℕ) (xs : List A)
    → AllByRecursion P xs → IfOk (each_from (λ _. f) k xs) (AllByRecursion Q)
each_ok_from P Q f one k [] all = tt
each_ok_from P Q f one k (x ∷ xs) all =
    let more = each_from (λ _. f) (k + 1) xs in
    on_ok (AllByRecursion Q) (f x) _ (λ y is. on_ok (AllByRecursion Q) more _
    (λ ys are. (of_ok Q (f x) y (one x all.0) is, of_ok (AllByRecursion Q) more ys (each_ok_from P Q f one (k + 1) xs all.1) are)))

each_ok_of : {A B : Type 0} (P : A → Type 0) (Q : B → Type 0) (f : A → Result B EvidenceFault) → ((x : A) → P x → IfOk (f x) Q) → (xs : List A)
    → AllByRecursion P xs → IfOk (each f xs) (AllByRecursion Q)
each_ok_of P Q f one xs all = each_ok_from P Q f one 1 xs all

anything : {A : Type 0} (xs : List A) → AllByRecursion (λ _. Unit {0}) xs
anything [] = tt
anything (x ∷ xs) = (tt, anything xs)

each_ok : {A B : Type 0} (Q : B → Type 0) (f : A → Result B EvidenceFault) → ((x : A) → IfOk (f x) Q) → (xs : List A) → IfOk (each f xs) (AllByRecursion Q)
each_ok Q f one xs = each_ok_of (λ _. Unit {0}) Q f (λ x _. one x) xs (anything xs)

-- all of these are there, and so have what they have where they are there
there : {A : Type 0} (P : A → Type 0) (e : EvidenceFault) (o : Option A) → ForSome o P → IfOk (or_fault e o) P
there P e (Some x) h = h x refl
there P e None h = tt

pub all_there : {A : Type 0} (P : A → Type 0) (e : EvidenceFault) (os : List (Option A)) (xs : List A) → each (or_fault e) os ≡ Ok xs → AllByRecursion (λ o. ForSome o P) os → AllByRecursion P xs
all_there P e os xs h all = of_ok (AllByRecursion P) (each (or_fault e) os) xs (each_ok_of (λ o. ForSome o P) P (or_fault e) (there P e) os all) h

-- ---- the shape

-- the number is in the range
abbrev IsWithin : ℕ → ℕ → Option ℕ → Type 0
IsWithin least most o = ForSome o (λ k. (least ≤ k) × (k ≤ most))

within_range : (least most n k : ℕ) → within least most n ≡ Some k → (least ≤ k) × (k ≤ most)
within_range least most n k h =
    let p = when_parts (nat_le least n && nat_le n most) (Some n) k h in
    let q = and_parts (nat_le least n) (nat_le n most) p.0 in
    let same : n ≡ k = cc in
    (omega (arith, leb-true least n q.0, same), omega (arith, leb-true n most q.1, same))

number_in : (f : Field) (least most : ℕ) (d : Data) → IfOk (number_of f least most d) (IsWithin least most)
unfolding number_of
number_in f least most d =
    on_ok (IsWithin least most) (or_fault (Shape f) (as_number d)) _ (λ n is k h. let p = option_and_then_parts (within least most) (as_u64 n) k h in within_range least most p.0 k p.2)

number_at_in : (f : Field) (least most : ℕ) (row : List Data) (i : ℕ) → IfOk (number_at f least most row i) (IsWithin least most)
unfolding number_at
number_at_in f least most row i = on_ok (IsWithin least most) (or_fault (Shape f) _) _ (λ d is. number_in f least most d)

rank_fits : (r : ℕ) → rank_of r ≢ Some 0
rank_fits r h = let p = unless_parts (r == 0) (Some r) 0 h in let same : r ≡ 0 = cc in eqb-false r 0 p.0 same

entry_in : (l h r n a v : Option ℕ) → IsWithin 0 767 l → ForSome (entry l h r n a v) IsEntry
unfolding entry
entry_in None h r n a v low e is = absurd cc
entry_in (Some l) None r n a v low e is = absurd cc
entry_in (Some l) (Some h) None n a v low e is = absurd cc
entry_in (Some l) (Some h) (Some r) None a v low e is = absurd cc
entry_in (Some l) (Some h) (Some r) (Some n) None v low e is = absurd cc
entry_in (Some l) (Some h) (Some r) (Some n) (Some a) None low e is = absurd cc
entry_in (Some l) (Some h) (Some r) (Some n) (Some a) (Some v) low e is =
    let made : NodeEntry = record { node = record { loc = l; listener = h == 1; rank = rank_of r }; number = n; tag = record { asn = a; value = v } } in
    let same : made ≡ e = cc in
    let small = low l refl in
    subst IsEntry same (omega (arith, small.1), rank_fits r)

node_in : (d : Data) → IfOk (node_of d) (λ o. ForSome o IsEntry)
unfolding node_of
node_in d =
    let P : Option NodeEntry → Type 0 = λ o. ForSome o IsEntry in
    on_ok P (row_of field.Nodes 6 d) _ (λ row _.
    on_ok P (number_at field.Nodes 0 767 row 0) _ (λ l place.
    on_ok P (number_at field.Nodes 0 1 row 1) _ (λ h _.
    on_ok P (number_at field.Nodes 0 greatest row 2) _ (λ r _.
    on_ok P (number_at field.Nodes 0 greatest row 3) _ (λ n _.
    on_ok P (number_at field.Nodes 0 greatest row 4) _ (λ a _.
    on_ok P (number_at field.Nodes 0 greatest row 5) _ (λ v _.
    entry_in l h r n a v (of_ok (IsWithin 0 767) (number_at field.Nodes 0 767 row 0) l (number_at_in field.Nodes 0 767 row 0) place))))))))

origin_in : (d : Data) → IfOk (number_of field.Origins 0 767 d) (λ o. ForSome o (λ l. l < 768))
origin_in d =
    ok_weaker (IsWithin 0 767) (λ o. ForSome o (λ l. l < 768)) (number_of field.Origins 0 767 d) (λ o h l is. let small = h l is in omega (arith, small.1)) (number_in field.Origins 0 767 d)

origins_in : (ds : List Data) → IfOk (origins_of ds) (AllByRecursion (λ o. ForSome o (λ l. l < 768)))
unfolding origins_of
origins_in ds =
    let P : Option ℕ → Type 0 = λ o. ForSome o (λ l. l < 768) in
    on_ok (AllByRecursion P) (each (number_of field.Origins 0 767) ds) _ (λ os are.
    on_ok (AllByRecursion P) (unless (Shape field.Origins) (are_in_order os)) _ (λ _ _.
    of_ok (AllByRecursion P) (each (number_of field.Origins 0 767) ds) os (each_ok P (number_of field.Origins 0 767) origin_in ds) are))

statement_in : (d : Data) → IfOk (number_of field.Statement 1 greatest d) (λ o. ForSome o (λ k. 1 ≤ k))
statement_in d =
    ok_weaker (IsWithin 1 greatest) (λ o. ForSome o (λ k. 1 ≤ k)) (number_of field.Statement 1 greatest d) (λ o h k is. (h k is).0) (number_in field.Statement 1 greatest d)

-- what a case says of places and of ways, where its numbers are in their ranges
abbrev ArePlaces : RawPlaces → Type 0
ArePlaces p = AllByRecursion (λ o. ForSome o IsEntry) p.nodes × AllByRecursion (λ o. ForSome o (λ l. l < 768)) p.origins

abbrev AreWays : RawWays → Type 0
AreWays w = ForSome w.statement (λ k. 1 ≤ k)

places_in : (d : Data) → IfOk (places_of d) ArePlaces
unfolding places_of
places_in d =
    on_ok ArePlaces (list_of field.Nodes (codes "nodes") d) _ (λ ns _.
    on_ok ArePlaces (each node_of ns) _ (λ nodes nodes_are.
    on_ok ArePlaces (list_of field.Origins (codes "origins") d) _ (λ os _.
    on_ok ArePlaces (origins_of os) _ (λ origins origins_are.
    on_ok ArePlaces (list_of field.Prefixes (codes "prefixes") d) _ (λ ps _.
    on_ok ArePlaces (each prefix_of ps) _ (λ prefixes _. (
      of_ok (AllByRecursion (λ o. ForSome o IsEntry)) (each node_of ns) nodes (each_ok (λ o. ForSome o IsEntry) node_of node_in ns) nodes_are,
      of_ok (AllByRecursion (λ o. ForSome o (λ l. l < 768))) (origins_of os) origins (origins_in os) origins_are,
    )))))))

ways_in : (d : Data) → IfOk (ways_of d) AreWays
unfolding ways_of
ways_in d =
    on_ok AreWays (list_of field.Starts (codes "starts") d) _ (λ ss _.
    on_ok AreWays (each (number_of field.Starts 0 greatest) ss) _ (λ starts _.
    on_ok AreWays (member_of field.Statement (codes "statement") d) _ (λ k _.
    on_ok AreWays (number_of field.Statement 1 greatest k) _ (λ statement statement_is.
    on_ok AreWays (list_of field.Steps (codes "steps") d) _ (λ ts _.
    on_ok AreWays (each step_of ts) _ (λ steps _.
    of_ok (λ o. ForSome o (λ k. 1 ≤ k)) (number_of field.Statement 1 greatest k) statement (statement_in k) statement_is))))))

case_in : (d : Data) → IfOk (case_of d) HasRanges
unfolding case_of
case_in d =
    on_ok HasRanges (unless (Shape field.Case) (is_case d)) _ (λ _ _.
    on_ok HasRanges (member_of field.External (codes "external") d) _ (λ value _.
    on_ok HasRanges (or_fault (Shape field.External) (as_bool value)) _ (λ external _.
    on_ok HasRanges (places_of d) _ (λ places places_are.
    on_ok HasRanges (ways_of d) _ (λ ways ways_are.
    let p = of_ok ArePlaces (places_of d) places (places_in d) places_are in
    record { nodes = p.0; origins = p.1; statement = of_ok AreWays (ways_of d) ways (ways_in d) ways_are })))))

pub shape_in : (d : Data) → IfOk (shape_of d) (λ t. AllByRecursion HasRanges t.cases)
unfolding shape_of
shape_in d =
    let P : RawEvidence → Type 0 = λ t. AllByRecursion HasRanges t.cases in
    on_ok P (unless (Shape field.Top) (is_evidence d)) _ (λ _ _.
    on_ok P (list_of field.Cases (codes "cases") d) _ (λ cs _.
    on_ok P (each case_of cs) _ (λ cases are.
    on_ok P (version_of d) _ (λ version _.
    of_ok (AllByRecursion HasRanges) (each case_of cs) cases (each_ok HasRanges case_of case_in cs) are))))

-- ---- the numbers

numbered_case_in : (c : RawCase) → HasRanges c → IfOk (numbered_case c) IsReadCase
unfolding numbered_case
numbered_case_in c ranges =
    on_ok IsReadCase (each (or_fault (Number field.Nodes)) c.nodes) _ (λ nodes nodes_are.
    on_ok IsReadCase (each (or_fault (Number field.Origins)) c.origins) _ (λ origins _.
    on_ok IsReadCase (each (or_fault (Number field.Starts)) c.starts) _ (λ starts _.
    on_ok IsReadCase (or_fault (Number field.Statement) c.statement) _ (λ statement statement_is.
    on_ok IsReadCase (each (or_fault (Number field.Steps)) c.steps) _ (λ steps _.
    record {
      nodes = all_there IsEntry (Number field.Nodes) c.nodes nodes nodes_are ranges.nodes;
      statement = of_ok (λ k. 1 ≤ k) (or_fault (Number field.Statement) c.statement) statement (there (λ k. 1 ≤ k) (Number field.Statement) c.statement ranges.statement) statement_is;
    })))))

pub numbered_in : (t : RawEvidence) → AllByRecursion HasRanges t.cases → IfOk (numbered t) (λ r. AllByRecursion IsReadCase r.cases)
unfolding numbered
numbered_in t ranges =
    let P : ReadText → Type 0 = λ r. AllByRecursion IsReadCase r.cases in
    on_ok P (each numbered_case t.cases) _ (λ cases are.
    on_ok P (or_fault (Number field.Version) t.version) _ (λ version _.
    of_ok (AllByRecursion IsReadCase) (each numbered_case t.cases) cases (each_ok_of HasRanges IsReadCase numbered_case numbered_case_in t.cases ranges) are))

-- ---- the nodes

pub is_graph : (c : ReadCase) → is_placed c ≡ true → length c.nodes ≤ 4294967000 → IsGraph (evidence_of c).graph
is_graph c placed few =
    let n = length-map c.nodes (λ (e : NodeEntry). e.node) in
    let p = and_parts (list_all (λ n. nat_lt n (length c.nodes)) c.starts) (list_all (λ (s : ℕ × ℕ). nat_lt s.0 (length c.nodes) && nat_lt s.1 (length c.nodes)) c.steps) placed in
    record {
      count = rw n few;
      starts = rw n (AllByRecursion-from_list_all (λ k. k < length c.nodes) (λ k. nat_lt k (length c.nodes)) (λ k h. ltb-true k (length c.nodes) h) c.starts p.0);
      steps = rw n
          (AllByRecursion-from_list_all (λ (s : ℕ × ℕ). (s.0 < length c.nodes) × (s.1 < length c.nodes)) (λ (s : ℕ × ℕ). nat_lt s.0 (length c.nodes) && nat_lt s.1 (length c.nodes))
          (λ s h. let q = and_parts (nat_lt s.0 (length c.nodes)) (nat_lt s.1 (length c.nodes)) h in (ltb-true s.0 (length c.nodes) q.0, ltb-true s.1 (length c.nodes) q.1)) c.steps p.1);
    }

pub is_case_evidence : (c : ReadCase) → IsReadCase c → IsCaseEvidence (evidence_of c)
is_case_evidence c is = record {
  sized = length-map c.nodes (λ (e : NodeEntry). e.number) ∙ sym (length-map c.nodes (λ (e : NodeEntry). e.node));
  tagged = length-map c.nodes (λ (e : NodeEntry). e.tag) ∙ sym (length-map c.nodes (λ (e : NodeEntry). e.node));
  stated = is.statement;
  places = AllByRecursion-map (λ (e : NodeEntry). e.node) (λ n. n.loc < 768) c.nodes (AllByRecursion-weaker IsEntry (λ e. e.node.loc < 768) c.nodes (λ e h. h.0) is.nodes);
  ranks = AllByRecursion-map (λ (e : NodeEntry). e.node) (λ n. n.rank ≢ Some 0) c.nodes (AllByRecursion-weaker IsEntry (λ e. e.node.rank ≢ Some 0) c.nodes (λ e h. h.1) is.nodes);
}
