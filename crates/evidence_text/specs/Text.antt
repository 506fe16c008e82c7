-- The text of evidence.
use Rattle.std.specs.Prelude.{ℕ, List, [], ◌∷◌, ◌++◌, map, filter, codes, unwrap_or, if◌then◌else◌}
use Rattle.std.specs.Fmt.{decimal}
use Rattle.std.specs.List.{range_with_len}
use Rattle.serde_json.specs.Data.{Data, unsigned, boolean, number, object, no_members, member}
use Rattle.serde_json.specs.Written.{compact_text}
use Rattle.json_values.specs.Json.{array_of, numbers_data, texts_data}
use Rattle.net_base.specs.declared.limits.TheConstants.{LOCATIONS}
use Rattle.net_base.specs.declared.loc.LocSet.{LocSet}
use Rattle.net_base.specs.declared.numbers.Tag.{Tag}
use Rattle.net_base.specs.Sets.{holds}
use Rattle.text_parts.specs.Texts.{prefix_text}
use Rattle.graph_base.specs.declared.graph.Node.{Node}
use Rattle.evidence_base.specs.Made.{PlainCaseEvidence}

-- the locations of a set, ascending
unfoldable pub members : LocSet → List ℕ
members s = filter (holds s) (range_with_len 0 LOCATIONS)

-- a location, 1 for a listener and else 0, a rank or 0 for none, a preference number, and the two numbers of a tag
abbrev pub node_data : Node → ℕ → Tag → Data
node_data v n tag = numbers_data (v.loc ∷ (if v.listener then 1 else 0) ∷ unwrap_or v.rank 0 ∷ n ∷ tag.asn ∷ tag.value ∷ [])

abbrev pub nodes_data : List Node → List ℕ → List Tag → List Data
nodes_data [] ns tags = []
nodes_data (v ∷ vs) [] tags = []
nodes_data (v ∷ vs) (n ∷ ns) [] = []
nodes_data (v ∷ vs) (n ∷ ns) (tag ∷ tags) = node_data v n tag ∷ nodes_data vs ns tags

abbrev pub step_data : ℕ × ℕ → Data
step_data s = numbers_data (s.0 ∷ s.1 ∷ [])

-- a case, with its keys in order
unfoldable pub case_data : PlainCaseEvidence → Data
case_data c =
    object
    (member (codes "external") (boolean c.case.external)
    (member (codes "nodes") (array_of (nodes_data c.graph.nodes c.numbers c.tags))
    (member (codes "origins") (numbers_data (members c.case.origins))
    (member (codes "prefixes") (texts_data (map prefix_text c.case.prefixes))
    (member (codes "starts") (numbers_data c.graph.starts)
    (member (codes "statement") (number (unsigned c.case.statement))
    (member (codes "steps") (array_of (map step_data c.graph.steps))
    no_members)))))))

-- the text of a case, as far as its prefixes, and from its starts on
abbrev pub places_text : PlainCaseEvidence → List ℕ
places_text c =
    codes "{\"external\":" ++ (compact_text (boolean c.case.external)
    ++ (codes ",\"nodes\":" ++ (compact_text (array_of (nodes_data c.graph.nodes c.numbers c.tags))
    ++ (codes ",\"origins\":" ++ (compact_text (numbers_data (members c.case.origins))
    ++ (codes ",\"prefixes\":" ++ compact_text (texts_data (map prefix_text c.case.prefixes))))))))

abbrev pub ways_text : PlainCaseEvidence → List ℕ
ways_text c =
    codes ",\"starts\":" ++ (compact_text (numbers_data c.graph.starts)
    ++ (codes ",\"statement\":" ++ (decimal c.case.statement
    ++ (codes ",\"steps\":" ++ (compact_text (array_of (map step_data c.graph.steps))
    ++ codes "}")))))

unfoldable pub evidence_data : List PlainCaseEvidence → Data
evidence_data cs = object (member (codes "cases") (array_of (map case_data cs)) (member (codes "version") (number (unsigned 1)) no_members))

-- one JSON object without spaces, and a line feed
abbrev pub evidence_text : List PlainCaseEvidence → List ℕ
evidence_text cs = compact_text (evidence_data cs) ++ codes "\n"
