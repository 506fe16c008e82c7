-- The JSON value of evidence is plain, and opens few arrays and objects at once.
use Rattle.std.proofs.Common.{◌≡◌, ℕ, ◌<◌, ◌≤◌, ◌^◌, Bool, true, false, List, [], ◌∷◌, length, map, refl, arith}
use Rattle.std.specs.Prelude.{unwrap_or, if◌then◌else◌}
use Rattle.std.specs.List.{AllByRecursion}
use Rattle.std.specs.Str.{IsUtf8}
use Rattle.std.proofs.lemmas.Bool.{lt-ltb}
use Rattle.list_law.proofs.Each.{AllByRecursion-weaker}
use Rattle.json.proofs.Printed.Utf8.{IsUtf8-are_ascii, are_ascii}
use Rattle.json_values.specs.Plain.{IsPlain, ArePlain}
use Rattle.json_values.proofs.PlainItems.{plain_map}
use Rattle.serde_json.specs.Data.{number, string, unsigned, depth, items_depth}
use Rattle.serde_json.specs.View.{items_of}
use Rattle.serde_json.proofs.OnLiterals.{serde_json_on_literals}
use Rattle.net_base.specs.declared.numbers.Tag.{Tag}
use Rattle.net_base.specs.Prefixes.{PlainPrefix, IsPrefix}
use Rattle.graph_base.specs.declared.graph.Node.{Node}
use Rattle.text_parts.specs.Texts.{prefix_text}
use Rattle.evidence_base.specs.Made.{PlainCaseEvidence}
use Rattle.evidence_text.specs.Text.{members, case_data, evidence_data, nodes_data, step_data}
use Rattle.evidence_text.specs.Writable.{IsWritable}
use Rattle.evidence_text.proofs.Items.{prefix_data, texts-prefixes}
use Rattle.evidence_text.proofs.PrefixLetters.{ascii-prefix_text}
use Rattle.evidence_text.proofs.SetMembers.{members_below}

pub mark_low : (b : Bool) → (if b then 1 else 0) ≤ 1
mark_low true = omega arith
mark_low false = omega arith

plain_numbers : (ns : List ℕ) → AllByRecursion (λ n. n < 4294967296) ns → ArePlain (items_of (map (λ n. number (unsigned n)) ns))
plain_numbers ns are = plain_map (λ n. n < 4294967296) (λ n. number (unsigned n)) (λ n low. omega (arith, low)) ns are

plain_nodes : (vs : List Node) (ns : List ℕ) (tags : List Tag)
    → AllByRecursion (λ (v : Node). v.loc < 768) vs → AllByRecursion (λ (v : Node). unwrap_or v.rank 0 < 2 ^ 32) vs
    → AllByRecursion (λ n. n < 2 ^ 32) ns → AllByRecursion (λ (t : Tag). (t.asn < 2 ^ 32) × (t.value < 2 ^ 32)) tags
    → ArePlain (items_of (nodes_data vs ns tags))
plain_nodes [] ns tags a c d e = tt
plain_nodes (v ∷ vs) [] tags a c d e = tt
plain_nodes (v ∷ vs) (n ∷ ns) [] a c d e = tt
plain_nodes (v ∷ vs) (n ∷ ns) (tag ∷ tags) a c d e = (
  plain_numbers (v.loc ∷ (if v.listener then 1 else 0) ∷ unwrap_or v.rank 0 ∷ n ∷ tag.asn ∷ tag.value ∷ [])
      (omega (arith, a.0), (omega (arith, mark_low v.listener), (c.0, (d.0, (e.0.0, (e.0.1, tt)))))),
  plain_nodes vs ns tags a.1 c.1 d.1 e.1,
)

prefix_utf8 : (p : PlainPrefix) → IsPrefix p → IsUtf8 (prefix_text p)
prefix_utf8 p is = IsUtf8-are_ascii (prefix_text p) (ascii (prefix_text p) (ascii-prefix_text p is))
  where
    ascii : (s : List ℕ) → AllByRecursion (λ x. x < 128) s → are_ascii s ≡ true
    ascii [] are = refl
    ascii (x ∷ xs) are = rw (lt-ltb x 128 are.0, ascii xs are.1) refl

plain_prefixes : (ps : List PlainPrefix) → AllByRecursion IsPrefix ps → ArePlain (items_of (map string (map prefix_text ps)))
plain_prefixes ps are = rw (texts-prefixes ps) (plain_map IsPrefix prefix_data prefix_utf8 ps are)

plain_case : (c : PlainCaseEvidence) → IsWritable c → IsPlain (case_data c)
unfolding case_data serde_json_on_literals
plain_case c is =
    let count = is.graph.count in (
      IsUtf8-are_ascii _ refl,
      tt,
      (refl, (refl, (refl, (refl, (refl, (refl, tt)))))),
      (
        IsUtf8-are_ascii _ refl,
        plain_nodes c.graph.nodes c.numbers c.tags is.rules.places is.ranks is.numbers is.tags,
        (refl, (refl, (refl, (refl, (refl, tt))))),
        (
          IsUtf8-are_ascii _ refl,
          plain_numbers (members c.case.origins) (AllByRecursion-weaker (λ l. l < 768) (λ l. l < 4294967296) (members c.case.origins) (λ l low. omega (arith, low)) (members_below c.case.origins)),
          (refl, (refl, (refl, (refl, tt)))),
          (
            IsUtf8-are_ascii _ refl,
            plain_prefixes c.case.prefixes is.prefixes,
            (refl, (refl, (refl, tt))),
            (
              IsUtf8-are_ascii _ refl,
              plain_numbers c.graph.starts (AllByRecursion-weaker (λ n. n < length c.graph.nodes) (λ n. n < 4294967296) c.graph.starts (λ n low. omega (arith, low, count)) is.graph.starts),
              (refl, (refl, tt)),
              (
                IsUtf8-are_ascii _ refl,
                omega (arith, is.statement),
                (refl, tt),
                (
                  IsUtf8-are_ascii _ refl,
                  plain_map (λ (s : ℕ × ℕ). (s.0 < length c.graph.nodes) × (s.1 < length c.graph.nodes)) step_data
                      (λ s low. plain_numbers (s.0 ∷ s.1 ∷ []) (omega (arith, low.0, count), (omega (arith, low.1, count), tt))) c.graph.steps is.graph.steps,
                  tt,
                  tt,
                ),
              ),
            ),
          ),
        ),
      ),
    )

pub plain_text : (cs : List PlainCaseEvidence) → AllByRecursion IsWritable cs → IsPlain (evidence_data cs)
unfolding evidence_data serde_json_on_literals
plain_text cs are =
    (IsUtf8-are_ascii _ refl, plain_map IsWritable case_data plain_case cs are, (refl, tt), (IsUtf8-are_ascii _ refl, omega arith, tt, tt))

-- ---- how deep it is

flat_numbers : (ns : List ℕ) → items_depth (items_of (map (λ n. number (unsigned n)) ns)) ≡ 0
flat_numbers [] = refl
flat_numbers (n ∷ ns) = omega (arith, flat_numbers ns)

flat_texts : (ts : List (List ℕ)) → items_depth (items_of (map string ts)) ≡ 0
flat_texts [] = refl
flat_texts (t ∷ ts) = omega (arith, flat_texts ts)

flat_nodes : (vs : List Node) (ns : List ℕ) (tags : List Tag) → items_depth (items_of (nodes_data vs ns tags)) ≤ 1
flat_nodes [] ns tags = omega arith
flat_nodes (v ∷ vs) [] tags = omega arith
flat_nodes (v ∷ vs) (n ∷ ns) [] = omega arith
flat_nodes (v ∷ vs) (n ∷ ns) (tag ∷ tags) = omega (arith, flat_nodes vs ns tags)

flat_steps : (ss : List (ℕ × ℕ)) → items_depth (items_of (map step_data ss)) ≤ 1
flat_steps [] = omega arith
flat_steps (s ∷ ss) = omega (arith, flat_steps ss)

case_depth : (c : PlainCaseEvidence) → depth (case_data c) ≤ 3
unfolding case_data
case_depth c =
    omega (arith, flat_nodes c.graph.nodes c.numbers c.tags, flat_numbers (members c.case.origins), flat_texts (map prefix_text c.case.prefixes), flat_numbers c.graph.starts, flat_steps c.graph.steps)

cases_depth : (cs : List PlainCaseEvidence) → items_depth (items_of (map case_data cs)) ≤ 3
cases_depth [] = omega arith
cases_depth (c ∷ cs) = omega (arith, case_depth c, cases_depth cs)

pub text_depth : (cs : List PlainCaseEvidence) → depth (evidence_data cs) ≤ 127
unfolding evidence_data
text_depth cs = omega (arith, cases_depth cs)
