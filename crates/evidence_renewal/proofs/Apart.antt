-- No tag stands in a renewed configuration and in the old one.
use Rattle.std.proofs.Common.{◌≡◌, ℕ, zero, suc, Bool, true, false, List, [], ◌∷◌, Some, refl, sym, ap, ◌∙◌, subst, arith, inl, inr, IsTrue}
use Rattle.std.specs.Prelude.{map, slice_get, if◌then◌else◌}
use Rattle.std.specs.List.{flat_map}
use Rattle.std.proofs.lemmas.Bool.{and_from, both_ways, eq-eqb}
use Rattle.list_law.specs.Members.{IsIn}
use Rattle.list_law.proofs.Members.{IsIn-append_left, IsIn-append_right, IsIn-flat_map, IsIn-map, list_any-from_IsIn}
use Rattle.net_base.specs.declared.numbers.Tag.{Tag}
use Rattle.net_base.specs.Network.{PlainNet, is_peer}
use Rattle.net_base.specs.Locations.{neighbours}
use Rattle.net_base.specs.Numbers.{is_tag, no_tag}
use Rattle.net_base.proofs.NumberRanges.{tag-range}
use Rattle.policy_base.specs.Policies.{PlainPolicy}
use Rattle.config_base.specs.declared.config.RouterConfig.{RouterConfig}
use Rattle.config_base.specs.declared.config.Session.{Session}
use Rattle.config_base.specs.Configs.{PlainConfig}
use Rattle.config_base.specs.Lines.{same_tag}
use Rattle.evidence_base.specs.Made.{PlainCaseEvidence, AreBlocks, IsBlock, IsConfigOf, case_at, tag_at}
use Rattle.free_tags.specs.Free.{is_taken}
use Rattle.free_tags.specs.Taken.{tag_of_export, tag_of_own, tags_in, tags_of_import, tags_of_router, tags_of_session}
use Rattle.rollout_law.specs.Standing.{StandsAt, StandsBy, StandsIn}
use Rattle.evidence_renewal.specs.Laws.{RenewedConfigurationsAreApart}
use Rattle.evidence_renewal.proofs.Cases.{new_at, new_value, renewed_class, was_tag}

-- ---- what stands in a configuration is among its tags

session_tag : (b : Session) (t : Tag) → StandsBy b t → IsIn (tags_of_session b) t
session_tag b t (inl (i, is, inl asks)) =
    IsIn-append_left (flat_map tags_of_import b.imports) _ t (IsIn-flat_map tags_of_import b.imports i t is (0, ap (λ (x : Tag). Some x) asks))
session_tag b t (inl (i, is, inr sets)) =
    IsIn-append_left (flat_map tags_of_import b.imports) _ t (IsIn-flat_map tags_of_import b.imports i t is (1, ap (λ (x : Tag). Some x) sets))
session_tag b t (inr (e, is, asks)) =
    IsIn-append_right (flat_map tags_of_import b.imports) _ t (subst (IsIn (map tag_of_export b.exports)) asks (IsIn-map tag_of_export b.exports e is))

router_tag : (c : RouterConfig) (t : Tag) → StandsAt c t → IsIn (tags_of_router c) t
router_tag c t (inl (o, is, own)) = IsIn-append_left _ (flat_map tags_of_session c.sessions) t (subst (IsIn (map tag_of_own c.own)) own (IsIn-map tag_of_own c.own o is))
router_tag c t (inr (b, is, stands)) = IsIn-append_right _ (flat_map tags_of_session c.sessions) t (IsIn-flat_map tags_of_session c.sessions b t is (session_tag b t stands))

pub standing : (config : PlainConfig) (t : Tag) → StandsIn config t → IsIn (tags_in config) t
standing config t (c, is, stands) = IsIn-flat_map tags_of_router config.routers c t is (router_tag c t stands)

same_self : (t : Tag) → same_tag t t ≡ true
same_self t = and_from _ _ (eq-eqb t.asn t.asn refl) (eq-eqb t.value t.value refl)

pub taken_there : (config : PlainConfig) (t : Tag) → StandsIn config t → is_taken (tags_in config) t.asn t.value ≡ true
taken_there config t stands = list_any-from_IsIn (same_tag t) (tags_in config) t (standing config t stands) (same_self t)

-- ---- what stands in a configuration that is made of cases is the tag of a node, or none

module _ (net : PlainNet) (ds : List PlainCaseEvidence) where
  record IsNodeTag (t : Tag) : Type 0 where
    class : ℕ
    case : PlainCaseEvidence
    node : ℕ
    at : case_at ds class ≡ Some case
    is : t ≡ tag_at case node

  pub block_in : (x : ℕ) (zs : List ℕ) (bs : List Session) (i : ℕ) (b : Session) → AreBlocks net ds x zs bs → slice_get bs i ≡ Some b → (z : ℕ) × IsBlock net ds x z b
  block_in x zs [] i b all at = absurd cc
  block_in x [] (c ∷ bs) i b all at = absurd all
  block_in x (z ∷ zs) (c ∷ bs) zero b all at = let same : c ≡ b = cc in (z, subst (λ (d : Session). IsBlock net ds x z d) same all.0)
  block_in x (z ∷ zs) (c ∷ bs) (suc i) b all at = block_in x zs bs i b all.1 at

  asked : (b : Bool) (case : PlainCaseEvidence) (class node : ℕ) (t asks : Tag) → case_at ds class ≡ Some case → asks ≡ (if b then no_tag else tag_at case node) → asks ≡ t → IsTrue (is_tag t) → IsNodeTag t
  asked true case class node t asks at is same fits = absurd (let none : t ≡ no_tag = sym same ∙ is in let range = tag-range t fits in omega (arith, ap (λ (x : Tag). x.value) none, range.2))
  asked false case class node t asks at is same fits = record { class = class; case = case; node = node; at = at; is = sym same ∙ is }

  by_block : (x z : ℕ) (b : Session) (t : Tag) → IsTrue (is_tag t) → IsBlock net ds x z b → StandsBy b t → IsNodeTag t
  by_block x z b t fits block (inl (i, is, inl asks)) =
      let from = (block.imports i).0 is in
      asked (is_peer net z) from.case i.class from.node t i.tag from.step.at_class from.tag asks fits
  by_block x z b t fits block (inl (i, is, inr sets)) =
      let from = (block.imports i).0 is in
      record { class = i.class; case = from.case; node = from.next; at = from.step.at_class; is = sym sets ∙ from.set }
  by_block x z b t fits block (inr (e, is, asks)) =
      let to = (block.exports e).0 is in
      record { class = e.class; case = to.case; node = to.node; at = to.step.at_class; is = sym asks ∙ to.tag }

  at_router : (policy : PlainPolicy) (config : PlainConfig) → IsConfigOf net policy ds config → (t : Tag) → IsTrue (is_tag t) → StandsIn config t → IsNodeTag t
  at_router policy config lines t fits (c, is, inl (o, own, asks)) =
      let from = ((lines.routers is.0 c is.1).own o).0 own in
      record { class = o.class; case = from.case; node = from.node; at = from.at_class; is = sym asks ∙ from.tag }
  at_router policy config lines t fits (c, is, inr (b, here, stands)) =
      let block = block_in is.0 (neighbours net is.0) c.sessions here.0 b (lines.routers is.0 c is.1).sessions here.1 in
      by_block is.0 block.0 b t fits block.1 stands

pub apart : RenewedConfigurationsAreApart
apart net policy old config ds rules is t fits new there =
    let node = at_router net ds policy config is.lines t fits new in
    let o = renewed_class _ _ is.evidence.compiled ds is.evidence.renewed node.class node.case node.at in
    let tag = new_at (tags_in old) o.0.tags node.case.tags o.2.tags node.node in
    let fits_there : IsTrue (is_tag (tag_at node.case node.node)) = subst (λ (x : Tag). IsTrue (is_tag x)) node.is fits in
    let free = new_value (tags_in old) (tag_at o.0 node.node) (tag_at node.case node.node) tag (was_tag (tags_in old) _ _ tag fits_there) in
    let none : is_taken (tags_in old) (tag_at node.case node.node).asn (tag_at node.case node.node).value ≡ false =
    ap (λ a. is_taken (tags_in old) a (tag_at node.case node.node).value) free.0 ∙ free.1.free in
    both_ways (is_taken (tags_in old) t.asn t.value) (ap (λ (x : Tag). is_taken (tags_in old) x.asn x.value) node.is ∙ none) (taken_there old t there)
