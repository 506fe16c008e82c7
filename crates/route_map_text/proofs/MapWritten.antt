-- Lines of maps texts that are written are read again.
use Rattle.std.proofs.Common.{◌≡◌, ℕ, ◌<◌, ◌^◌, List, [], ◌∷◌, Bool, true, false, Some, None, Ok, refl, sym, ◌∙◌, ap, arith}
use Rattle.std.specs.Prelude.{◌≢◌, IsTrue, codes}
use Rattle.std.specs.List.{join_with_byte, list_all}
use Rattle.std.specs.Fmt.{decimal}
use Rattle.net_base.specs.NameRule.{is_name}
use Rattle.net_base.specs.Prefixes.{PlainPattern, IsPattern}
use Rattle.text_parts.specs.Texts.{prefix_text, pattern_text}
use Rattle.text_parts.proofs.PrefixTexts.{prefix_spelled-prefix_text, have_no}
use Rattle.config_base.specs.declared.config.Import.{Import}
use Rattle.config_base.specs.declared.config.Origination.{Origination}
use Rattle.config_base.specs.declared.config.Export.{Export}
use Rattle.route_maps.specs.declared.maps.ListLine.{ListLine}
use Rattle.config_lines.specs.declared.edition.Edition.TheVariants.{Second}
use Rattle.config_lines.specs.declared.line.Line.TheVariants as line
use Rattle.config_lines.specs.Editions.{tag_text, fits_router, fits_peer}
use Rattle.config_lines.specs.LineText.{IsLine}
use Rattle.config_lines.specs.Lines.{setting, end_line}
use Rattle.config_lines.proofs.Digits.{number_there}
use Rattle.config_lines.proofs.JoinedLines.{setting_words}
use Rattle.config_lines.proofs.PartLaws.{class_there, class_low}
use Rattle.config_lines.proofs.PatternLaws.{pattern_words, pattern_words-some, joined_pattern, solid_pattern, pattern_there}
use Rattle.config_lines.proofs.Ranges.{router_low, peer_low}
use Rattle.config_lines.proofs.Solid.{solid, solid_number, solid_prefix, split_joined, solid_words, joined_no_feed}
use Rattle.config_lines.proofs.Tags.{tag_there, solid_tag}
use Rattle.config_lines.proofs.WrittenForms.{router_words, router_written, router_solid, router_read, neighbour_words, neighbour_written, neighbour_solid, session_read, peer_read}
use Rattle.route_map_text.specs.declared.line.MapLine.{MapLine}
use Rattle.route_map_text.specs.declared.line.MapLine.TheVariants.{List as ListOf, Entry, Block}
use Rattle.route_map_text.specs.MapLines.{kind_of, list_line, network_line, matched, unmatched, in_line, exported, out_line, as_block, form_line, words_line, map_line_of}
use Rattle.route_map_text.specs.MapLineText.{map_line_text, IsMapLine}
use Rattle.route_map_text.proofs.MapJoined.{kind_word, list_joined, network_joined, matched_joined, unmatched_joined, out_joined}

-- its text is read as the line, and has no line feed
abbrev pub IsMapReadAgain : ℕ → MapLine → Type 0
IsMapReadAgain count l = (map_line_of (map_line_text l) count ≡ Ok l) × (have_no 10 (map_line_text l) ≡ true)

-- a line whose words are read is read
by_words : (count : ℕ) (l : MapLine) (w : List ℕ) (ws : List (List ℕ)) → join_with_byte 32 (w ∷ ws) ≡ map_line_text l → list_all solid (w ∷ ws) ≡ true
    → words_line count (w ∷ ws) ≡ Ok l → IsMapReadAgain count l
by_words count l w ws text all read = (
  ap (λ (bs : List ℕ). map_line_of bs count) (sym text) ∙ ap (words_line count) (split_joined 32 w ws (solid_words 32 (w ∷ ws) (omega arith) all))
      ∙ read,
  ap (have_no 10) (sym text) ∙ joined_no_feed (w ∷ ws) all,
)

abbrev of_kind : Bool → PlainPattern → ListLine
of_kind b t = record { permit = b; pattern = t }

abbrev list_words : ℕ → Bool → PlainPattern → List (List ℕ)
list_words n b t = decimal n ∷ kind_word b ∷ pattern_words t

list_text : (n : ℕ) (b : Bool) (t : PlainPattern) → join_with_byte 32 (codes "list" ∷ list_words n b t) ≡ map_line_text (ListOf (Some n) (of_kind b t))
list_text n b t =
    let some = pattern_words-some t in
    ap (λ (vs : List (List ℕ)). join_with_byte 32 (codes "list" ∷ decimal n ∷ kind_word b ∷ vs)) some.2
    ∙ list_joined (decimal n) (kind_word b) (decimal n) (join_with_byte 32 (some.0 ∷ some.1)) (pattern_text t) b refl refl (ap (join_with_byte 32) (sym some.2) ∙ joined_pattern t)

list_of_kind : (count n : ℕ) (b : Bool) (t : PlainPattern) → n < 2 ^ 32 → IsPattern t → IsMapReadAgain count (ListOf (Some n) (of_kind b t))
unfolding form_line list_line kind_of
list_of_kind count n true t low is =
    by_words count (ListOf (Some n) (of_kind true t)) (codes "list") (list_words n true t) (list_text n true t)
    (rw (solid_number n (omega (arith, low)), solid_pattern t is) refl) (rw (number_there n low, pattern_there t is) refl)
list_of_kind count n false t low is =
    by_words count (ListOf (Some n) (of_kind false t)) (codes "list") (list_words n false t) (list_text n false t)
    (rw (solid_number n (omega (arith, low)), solid_pattern t is) refl) (rw (number_there n low, pattern_there t is) refl)

pub list_there : (count n : ℕ) (l : ListLine) → n < 2 ^ 32 → IsPattern l.pattern → IsMapReadAgain count (ListOf (Some n) l)
list_there count n l low is = list_of_kind count n l.permit l.pattern low is

router_there : (count : ℕ) (name : List ℕ) (asn id : ℕ) → IsTrue (is_name name) → IsTrue (fits_router Second asn) → id ≢ 0 → id < 2 ^ 32 → IsMapReadAgain count (Block (line.Router name asn id))
unfolding form_line
router_there count name asn id named number apart wide =
    by_words count (Block (line.Router name asn id)) (codes "router") (router_words name asn id) (router_written name asn id)
    (router_solid name asn id named (router_low Second asn number) wide) (ap as_block (router_read Second name asn id named number apart wide))

network_there : (count : ℕ) (o : Origination) → count < 2 ^ 32 → IsLine Second count (line.Origination o) → IsMapReadAgain count (Block (line.Origination o))
unfolding form_line network_line
network_there count o few is =
    let low = class_low count o.class few is.0.0 in
    let tag = tag_there Second o.tag is.0.1 in
    by_words count (Block (line.Origination o)) (codes "network") (prefix_text o.prefix ∷ codes "list" ∷ decimal o.class ∷ codes "set" ∷ tag_text Second o.tag ∷ [])
    (network_joined (prefix_text o.prefix) (codes "list") (decimal o.class) (codes "set") (tag_text Second o.tag) (prefix_text o.prefix)
    (decimal o.class) (tag_text Second o.tag) refl refl refl refl refl)
    (rw (solid_number o.class (omega (arith, low)), solid_prefix o.prefix is.1, solid_tag Second o.tag is.0.1) refl)
    (rw (number_there o.class low, prefix_spelled-prefix_text o.prefix is.1, tag.0, class_there count o.class is.0.0, tag.1) refl)

neighbor_there : (count : ℕ) (name : List ℕ) (asn : ℕ) → IsTrue (is_name name) → IsTrue (fits_router Second asn) → IsMapReadAgain count (Block (line.Session name asn))
unfolding form_line
neighbor_there count name asn named number =
    by_words count (Block (line.Session name asn)) (codes "neighbor") (neighbour_words name asn) (neighbour_written (codes "neighbor") name asn)
    (neighbour_solid name asn named (router_low Second asn number)) (ap as_block (session_read Second name asn named number))

peer_there : (count : ℕ) (name : List ℕ) (asn : ℕ) → IsTrue (is_name name) → IsTrue (fits_peer Second asn) → IsMapReadAgain count (Block (line.Peer name asn))
unfolding form_line
peer_there count name asn named number =
    by_words count (Block (line.Peer name asn)) (codes "peer") (neighbour_words name asn) (neighbour_written (codes "peer") name asn)
    (neighbour_solid name asn named (peer_low Second asn number)) (ap as_block (peer_read Second name asn named number))

in_there : (count k : ℕ) (r : Import) → count < 2 ^ 32 → k < 2 ^ 32 → IsLine Second count (line.Import r) → IsMapReadAgain count (Entry (Some k) (line.Import r))
unfolding form_line in_line matched setting
in_there count k r few small is =
    let low = class_low count r.class few is.1.0 in
    let tag = tag_there Second r.tag is.0 in
    let set = tag_there Second r.set is.1.1 in
    by_words count (Entry (Some k) (line.Import r)) (codes "in") (decimal k ∷ codes "list" ∷ decimal r.class ∷ codes "match" ∷ tag_text Second r.tag
    ∷ setting_words Second r.set r.pref)
    (matched_joined (decimal k) (codes "list") (decimal r.class) (codes "match") (tag_text Second r.tag) (decimal k) (decimal r.class) (tag_text Second r.tag) r.set r.pref refl refl refl refl refl)
    (rw (
      solid_number k (omega (arith, small)),
      solid_number r.class (omega (arith, low)),
      solid_tag Second r.tag is.0,
      solid_tag Second r.set is.1.1,
      solid_number r.pref (omega (arith, is.1.2)),
    ) refl)
    (rw (number_there k small, number_there r.class low, tag.0, set.0, number_there r.pref is.1.2, class_there count r.class is.1.0, tag.1, set.1) refl)

peer_in_there : (count k : ℕ) (r : Import) → count < 2 ^ 32 → k < 2 ^ 32 → IsLine Second count (line.PeerImport r) → IsMapReadAgain count (Entry (Some k) (line.PeerImport r))
unfolding form_line in_line unmatched setting
peer_in_there count k r few small is =
    let low = class_low count r.class few is.1.0 in
    let set = tag_there Second r.set is.1.1 in
    by_words count (Entry (Some k) (line.PeerImport r)) (codes "in") (decimal k ∷ codes "list" ∷ decimal r.class ∷ setting_words Second r.set r.pref)
    (unmatched_joined (decimal k) (codes "list") (decimal r.class) (decimal k) (decimal r.class) r.set r.pref refl refl refl)
    (rw (solid_number k (omega (arith, small)), solid_number r.class (omega (arith, low)), solid_tag Second r.set is.1.1, solid_number r.pref (omega (arith, is.1.2))) refl)
    (rw (number_there k small, number_there r.class low, set.0, number_there r.pref is.1.2, class_there count r.class is.1.0, set.1, sym is.0) refl)

out_there : (count k : ℕ) (e : Export) → count < 2 ^ 32 → k < 2 ^ 32 → IsLine Second count (line.Export e) → IsMapReadAgain count (Entry (Some k) (line.Export e))
unfolding form_line out_line exported
out_there count k e few small is =
    let low = class_low count e.class few is.0 in
    let tag = tag_there Second e.tag is.1 in
    by_words count (Entry (Some k) (line.Export e)) (codes "out") (decimal k ∷ codes "list" ∷ decimal e.class ∷ codes "match" ∷ tag_text Second e.tag ∷ [])
    (out_joined (decimal k) (codes "list") (decimal e.class) (codes "match") (tag_text Second e.tag) (decimal k) (decimal e.class) (tag_text Second e.tag) refl refl refl refl refl)
    (rw (solid_number k (omega (arith, small)), solid_number e.class (omega (arith, low)), solid_tag Second e.tag is.1) refl)
    (rw (number_there k small, number_there e.class low, tag.0, class_there count e.class is.0, tag.1) refl)

end_there : (count : ℕ) → IsMapReadAgain count (Block line.End)
unfolding form_line end_line
end_there count = by_words count (Block line.End) (codes "end") [] refl refl refl

-- a line that keeps its rules is read from its text
pub map_lines_read : (count : ℕ) (l : MapLine) → count < 2 ^ 32 → IsMapLine count l → IsMapReadAgain count l
map_lines_read count (ListOf (Some n) l) few is = list_there count n l is.0 is.1
map_lines_read count (ListOf None l) few is = absurd is.0
map_lines_read count (Entry None l) few is = absurd is.0
map_lines_read count (Entry (Some k) (line.Import r)) few is = in_there count k r few is.0 is.2
map_lines_read count (Entry (Some k) (line.PeerImport r)) few is = peer_in_there count k r few is.0 is.2
map_lines_read count (Entry (Some k) (line.Export e)) few is = out_there count k e few is.0 is.2
map_lines_read count (Entry (Some k) _) few is = absurd is.1
map_lines_read count (Block (line.Router name asn id)) few is = router_there count name asn id is.1.0 is.1.1 is.1.2 is.1.3
map_lines_read count (Block (line.Origination o)) few is = network_there count o few is.1
map_lines_read count (Block (line.Session name asn)) few is = neighbor_there count name asn is.1.0 is.1.1
map_lines_read count (Block (line.Peer name asn)) few is = peer_there count name asn is.1.0 is.1.1
map_lines_read count (Block line.End) few is = end_there count
map_lines_read count (Block _) few is = absurd is.0
