-- Which faults each pass tells.
use Rattle.std.proofs.Common.{ℕ, List, Option, Result, Ok, Err, refl}
use Rattle.std.specs.Prelude.{codes, length, slice_get, ◌==◌}
use Rattle.serde_json.specs.Data.{Data}
use Rattle.serde_json.specs.Find.{get, as_bool, as_number, as_str}
use Rattle.json_values.specs.Json.{list_at}
use Rattle.json_values.proofs.OnlyFaults.{IsOf, Only, only_bind, only_each, or_only, or_then, unless_then}
use Rattle.net_base.specs.Prefixes.{PlainPrefix}
use Rattle.net_base.specs.PrefixText.{prefix_spelled}
use Rattle.net_base.specs.declared.prefix_text.PrefixFault.{PrefixFault}
use Rattle.net_base.specs.Steps.{or_fault}
use Rattle.evidence_text.specs.declared.parts.Field.{Field}
use Rattle.evidence_text.specs.declared.parts.Field.TheVariants as field
use Rattle.evidence_text.specs.declared.fault.EvidenceFault.{EvidenceFault}
use Rattle.evidence_text.specs.declared.fault.EvidenceFault.TheVariants.{Shape, Number}
use Rattle.evidence_text.specs.declared.raw.RawCase.{RawCase}
use Rattle.evidence_text.specs.declared.raw.RawEvidence.{RawEvidence}
use Rattle.evidence_text.specs.Shape.{each, number_of, number_at, node_of, origins_of, list_of, row_of, prefix_or, prefix_of, step_of, are_in_order, is_case}
use Rattle.evidence_text.specs.Shape.{is_evidence, places_of, ways_of, case_of, version_of, shape_of, greatest}
use Rattle.evidence_text.specs.Spelled.{numbered_case, numbered}

-- each of some items has such faults alone
each_only : {A B : Type 0} (P : EvidenceFault → Type 0) (f : A → Result B EvidenceFault) → ((x : A) → Only P (f x)) → (xs : List A) → Only P (each f xs)
each_only P f one xs = only_each P f one 1 xs

-- ---- the shape

number_only : (f : Field) (least most : ℕ) (d : Data) → Only (IsOf Shape) (number_of f least most d)
unfolding number_of
number_only f least most d = or_then Shape f (as_number d) _ (λ n. tt)

number_at_only : (f : Field) (least most : ℕ) (row : List Data) (i : ℕ) → Only (IsOf Shape) (number_at f least most row i)
unfolding number_at
number_at_only f least most row i = or_then Shape f (slice_get row i) _ (λ d. number_only f least most d)

list_only : (f : Field) (key : List ℕ) (d : Data) → Only (IsOf Shape) (list_of f key d)
unfolding list_of
list_only f key d = or_then Shape f (get key d) _ (λ v. or_only Shape f (list_at v))

row_only : (f : Field) (n : ℕ) (d : Data) → Only (IsOf Shape) (row_of f n d)
unfolding row_of
row_only f n d =
    or_then Shape f (list_at d) _ (λ row.
    unless_then Shape f (length row == n) _ (λ _. tt))

node_only : (d : Data) → Only (IsOf Shape) (node_of d)
unfolding node_of
node_only d =
    only_bind (IsOf Shape) (row_of field.Nodes 6 d) _ (row_only field.Nodes 6 d) (λ row.
    only_bind (IsOf Shape) (number_at field.Nodes 0 767 row 0) _ (number_at_only field.Nodes 0 767 row 0) (λ _.
    only_bind (IsOf Shape) (number_at field.Nodes 0 1 row 1) _ (number_at_only field.Nodes 0 1 row 1) (λ _.
    only_bind (IsOf Shape) (number_at field.Nodes 0 greatest row 2) _ (number_at_only field.Nodes 0 greatest row 2) (λ _.
    only_bind (IsOf Shape) (number_at field.Nodes 0 greatest row 3) _ (number_at_only field.Nodes 0 greatest row 3) (λ _.
    only_bind (IsOf Shape) (number_at field.Nodes 0 greatest row 4) _ (number_at_only field.Nodes 0 greatest row 4) (λ _.
    only_bind (IsOf Shape) (number_at field.Nodes 0 greatest row 5) _ (number_at_only field.Nodes 0 greatest row 5) (λ _. tt)))))))

step_only : (d : Data) → Only (IsOf Shape) (step_of d)
unfolding step_of
step_only d =
    only_bind (IsOf Shape) (row_of field.Steps 2 d) _ (row_only field.Steps 2 d) (λ row.
    only_bind (IsOf Shape) (number_at field.Steps 0 greatest row 0) _ (number_at_only field.Steps 0 greatest row 0) (λ _.
    only_bind (IsOf Shape) (number_at field.Steps 0 greatest row 1) _ (number_at_only field.Steps 0 greatest row 1) (λ _. tt)))

prefix_shape : (r : Result PlainPrefix PrefixFault) → Only (IsOf Shape) (prefix_or r)
prefix_shape (Ok p) = tt
prefix_shape (Err e) = (field.Prefixes, refl)

prefix_only : (d : Data) → Only (IsOf Shape) (prefix_of d)
unfolding prefix_of
prefix_only d = or_then Shape field.Prefixes (as_str d) _ (λ text. prefix_shape (prefix_spelled text))

origins_only : (ds : List Data) → Only (IsOf Shape) (origins_of ds)
unfolding origins_of
origins_only ds =
    only_bind (IsOf Shape) (each (number_of field.Origins 0 767) ds) _ (each_only (IsOf Shape) (number_of field.Origins 0 767) (number_only field.Origins 0 767) ds) (λ os.
    unless_then Shape field.Origins (are_in_order os) _ (λ _. tt))

places_only : (d : Data) → Only (IsOf Shape) (places_of d)
unfolding places_of
places_only d =
    only_bind (IsOf Shape) (list_of field.Nodes (codes "nodes") d) _ (list_only field.Nodes (codes "nodes") d) (λ ns.
    only_bind (IsOf Shape) (each node_of ns) _ (each_only (IsOf Shape) node_of node_only ns) (λ _.
    only_bind (IsOf Shape) (list_of field.Origins (codes "origins") d) _ (list_only field.Origins (codes "origins") d) (λ os.
    only_bind (IsOf Shape) (origins_of os) _ (origins_only os) (λ _.
    only_bind (IsOf Shape) (list_of field.Prefixes (codes "prefixes") d) _ (list_only field.Prefixes (codes "prefixes") d) (λ ps.
    only_bind (IsOf Shape) (each prefix_of ps) _ (each_only (IsOf Shape) prefix_of prefix_only ps) (λ _. tt))))))

ways_only : (d : Data) → Only (IsOf Shape) (ways_of d)
unfolding ways_of
ways_only d =
    only_bind (IsOf Shape) (list_of field.Starts (codes "starts") d) _ (list_only field.Starts (codes "starts") d) (λ ss.
    only_bind (IsOf Shape) (each (number_of field.Starts 0 greatest) ss) _ (each_only (IsOf Shape) (number_of field.Starts 0 greatest) (number_only field.Starts 0 greatest) ss) (λ _.
    or_then Shape field.Statement (get (codes "statement") d) _ (λ k.
    only_bind (IsOf Shape) (number_of field.Statement 1 greatest k) _ (number_only field.Statement 1 greatest k) (λ _.
    only_bind (IsOf Shape) (list_of field.Steps (codes "steps") d) _ (list_only field.Steps (codes "steps") d) (λ ts.
    only_bind (IsOf Shape) (each step_of ts) _ (each_only (IsOf Shape) step_of step_only ts) (λ _. tt))))))

case_only : (d : Data) → Only (IsOf Shape) (case_of d)
unfolding case_of
case_only d =
    unless_then Shape field.Case (is_case d) _ (λ _.
    or_then Shape field.External (get (codes "external") d) _ (λ value.
    or_then Shape field.External (as_bool value) _ (λ _.
    only_bind (IsOf Shape) (places_of d) _ (places_only d) (λ _.
    only_bind (IsOf Shape) (ways_of d) _ (ways_only d) (λ _. tt)))))

version_only : (d : Data) → Only (IsOf Shape) (version_of d)
unfolding version_of
version_only d = or_then Shape field.Version (get (codes "version") d) _ (λ v. number_only field.Version 0 greatest v)

pub shape_only : (d : Data) → Only (IsOf Shape) (shape_of d)
unfolding shape_of
shape_only d =
    unless_then Shape field.Top (is_evidence d) _ (λ _.
    only_bind (IsOf Shape) (list_of field.Cases (codes "cases") d) _ (list_only field.Cases (codes "cases") d) (λ cs.
    only_bind (IsOf Shape) (each case_of cs) _ (each_only (IsOf Shape) case_of case_only cs) (λ _.
    only_bind (IsOf Shape) (version_of d) _ (version_only d) (λ _. tt))))

-- ---- the numbers

all_or : {A : Type 0} (f : Field) (os : List (Option A)) → Only (IsOf Number) (each (or_fault (Number f)) os)
all_or f os = each_only (IsOf Number) (or_fault (Number f)) (or_only Number f) os

numbered_case_only : (c : RawCase) → Only (IsOf Number) (numbered_case c)
unfolding numbered_case
numbered_case_only c =
    only_bind (IsOf Number) (each (or_fault (Number field.Nodes)) c.nodes) _ (all_or field.Nodes c.nodes) (λ _.
    only_bind (IsOf Number) (each (or_fault (Number field.Origins)) c.origins) _ (all_or field.Origins c.origins) (λ _.
    only_bind (IsOf Number) (each (or_fault (Number field.Starts)) c.starts) _ (all_or field.Starts c.starts) (λ _.
    or_then Number field.Statement c.statement _ (λ _.
    only_bind (IsOf Number) (each (or_fault (Number field.Steps)) c.steps) _ (all_or field.Steps c.steps) (λ _. tt)))))

pub numbered_only : (t : RawEvidence) → Only (IsOf Number) (numbered t)
unfolding numbered
numbered_only t =
    only_bind (IsOf Number) (each numbered_case t.cases) _ (each_only (IsOf Number) numbered_case numbered_case_only t.cases) (λ _.
    or_then Number field.Version t.version _ (λ _. tt))
