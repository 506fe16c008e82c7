-- Where no tag stands in the lines of two classes, none stands in both.
use Rattle.std.proofs.Common.{◌≡◌, ℕ, ◌+◌, Bool, true, false, List, [], ◌∷◌, ◌++◌, map, filter, refl, sym, ap, ap₂, ◌∙◌, inl, inr, subst}
use Rattle.std.specs.Prelude.{◌&&◌, ◌==◌, IsTrue}
use Rattle.std.specs.List.{flat_map, list_any}
use Rattle.std.proofs.lemmas.Bool.{eq-eqb}
use Rattle.list_law.specs.Members.{IsIn}
use Rattle.list_law.proofs.Members.{IsIn-append_left, IsIn-append_right, IsIn-cons_cases, IsIn-filter, IsIn-flat_map, IsIn-map, IsIn-nil, list_any-from_IsIn}
use Rattle.net_base.specs.declared.numbers.Tag.{Tag}
use Rattle.net_base.specs.Numbers.{is_tag}
use Rattle.config_base.specs.declared.config.RouterConfig.{RouterConfig}
use Rattle.config_base.specs.declared.config.Session.{Session}
use Rattle.config_base.specs.declared.config.Import.{Import}
use Rattle.config_base.specs.declared.config.Export.{Export}
use Rattle.config_base.specs.declared.config.Origination.{Origination}
use Rattle.config_base.specs.Configs.{PlainConfig}
use Rattle.config_base.specs.Lines.{same_tag}
use Rattle.class_lines.specs.declared.class_line.ClassLine.{ClassLine}
use Rattle.class_lines.specs.ClassLines.{all_lines, export_line, import_line, of_class, own_line, router_lines, routers_from, session_lines, sessions_from}
use Rattle.class_lines.specs.Marks.{is_among, shared_tags, tags_in, tags_said}
use Rattle.stage_law.specs.Mixing.{HaveNoTagInCommon, StandsAt, StandsBy, StandsIn}

-- ---- lines that are somewhere

pub sessions_in : (r k : ℕ) (bs : List Session) (b : Session) → IsIn bs b → (j : ℕ) × ((l : ClassLine) → IsIn (session_lines r j b) l → IsIn (sessions_from r k bs) l)
sessions_in r k [] b at = absurd (IsIn-nil b at)
sessions_in r k (x ∷ xs) b at = elim (IsIn-cons_cases x xs b at) [
  | inl same ↦ (k, λ l is. IsIn-append_left (session_lines r k x) (sessions_from r (k + 1) xs) l (subst (λ y. IsIn (session_lines r k y) l) (sym same) is))
  | inr later ↦ (let rest = sessions_in r (k + 1) xs b later in (rest.0, λ l is. IsIn-append_right (session_lines r k x) (sessions_from r (k + 1) xs) l (rest.1 l is)))
]

pub routers_in : (r : ℕ) (cs : List RouterConfig) (c : RouterConfig) → IsIn cs c → (j : ℕ) × ((l : ClassLine) → IsIn (router_lines j c) l → IsIn (routers_from r cs) l)
routers_in r [] c at = absurd (IsIn-nil c at)
routers_in r (x ∷ xs) c at = elim (IsIn-cons_cases x xs c at) [
  | inl same ↦ (r, λ l is. IsIn-append_left (router_lines r x) (routers_from (r + 1) xs) l (subst (λ y. IsIn (router_lines r y) l) (sym same) is))
  | inr later ↦ (let rest = routers_in (r + 1) xs c later in (rest.0, λ l is. IsIn-append_right (router_lines r x) (routers_from (r + 1) xs) l (rest.1 l is)))
]

-- ---- a tag that stands somewhere stands in a line

record Line (ls : List ClassLine) (n : ℕ) (t : Tag) : Type 0 where
  line : ClassLine
  at : IsIn ls line
  class : line.class ≡ n
  says : IsIn (tags_said line.says) t

of_block : (n r k : ℕ) (b : Session) (t : Tag) → StandsBy n b t → Line (session_lines r k b) n t
of_block n r k b t (inl (i, at, class, inl is)) = record {
  line = import_line r k i;
  at = IsIn-append_left (map (import_line r k) b.imports) (map (export_line r k) b.exports) (import_line r k i) (IsIn-map (import_line r k) b.imports i at);
  class = class;
  says = subst (λ u. IsIn (i.tag ∷ i.set ∷ []) u) is (0, refl);
}
of_block n r k b t (inl (i, at, class, inr is)) = record {
  line = import_line r k i;
  at = IsIn-append_left (map (import_line r k) b.imports) (map (export_line r k) b.exports) (import_line r k i) (IsIn-map (import_line r k) b.imports i at);
  class = class;
  says = subst (λ u. IsIn (i.tag ∷ i.set ∷ []) u) is (1, refl);
}
of_block n r k b t (inr (e, at, class, is)) = record {
  line = export_line r k e;
  at = IsIn-append_right (map (import_line r k) b.imports) (map (export_line r k) b.exports) (export_line r k e) (IsIn-map (export_line r k) b.exports e at);
  class = class;
  says = subst (λ u. IsIn (e.tag ∷ []) u) is (0, refl);
}

of_router : (n r : ℕ) (c : RouterConfig) (t : Tag) → StandsAt n c t → Line (router_lines r c) n t
of_router n r c t (inl (o, at, class, is)) = record {
  line = own_line r o;
  at = IsIn-append_left (map (own_line r) c.own) (sessions_from r 1 c.sessions) (own_line r o) (IsIn-map (own_line r) c.own o at);
  class = class;
  says = subst (λ u. IsIn (o.tag ∷ []) u) is (0, refl);
}
of_router n r c t (inr (b, at, stands)) =
    let place = sessions_in r 1 c.sessions b at in
    let l = of_block n r place.0 b t stands in
    record {
      line = l.line;
      at = IsIn-append_right (map (own_line r) c.own) (sessions_from r 1 c.sessions) l.line (place.1 l.line l.at);
      class = l.class;
      says = l.says;
    }

stands_in_line : (n : ℕ) (config : PlainConfig) (t : Tag) → StandsIn n config t → IsIn (tags_in (of_class n (all_lines config))) t
stands_in_line n config t (c, at, stands) =
    let place = routers_in 0 config.routers c at in
    let l = of_router n place.0 c t stands in
    IsIn-flat_map (λ (x : ClassLine). tags_said x.says) (of_class n (all_lines config)) l.line t
    (IsIn-filter (λ (x : ClassLine). x.class == n) (all_lines config) l.line (place.1 l.line l.at) (eq-eqb l.line.class n l.class)) l.says

-- ---- so

same_tag-self : (t : Tag) → same_tag t t ≡ true
same_tag-self t = rw (eq-eqb t.asn t.asn refl, eq-eqb t.value t.value refl) refl

pub no_tag_in_common : (m n : ℕ) (old new : PlainConfig) → shared_tags (of_class m (all_lines old)) (of_class n (all_lines new)) ≡ [] → HaveNoTagInCommon m n old new
no_tag_in_common m n old new none t tag here there =
    let old_tags : List Tag = tags_in (of_class m (all_lines old)) in
    let among : is_among old_tags t ≡ true = rw (tag, list_any-from_IsIn (same_tag t) old_tags t (stands_in_line m old t here) (same_tag-self t)) refl in
    IsIn-nil t (subst (λ ts. IsIn ts t) none (IsIn-filter (is_among old_tags) (tags_in (of_class n (all_lines new))) t (stands_in_line n new t there) among))
