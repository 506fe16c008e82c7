-- What was read so far keeps the rules of configurations, were each open block closed.
use Rattle.std.proofs.Common.{◌≡◌, ℕ, ◌<◌, ◌^◌, List, [], ◌∷◌, ◌++◌, length, map, Bool, true, false, Option, Some, None, Ok, refl, sym, ◌∙◌, ap, subst, arith, append-nil}
use Rattle.std.specs.Prelude.{◌≢◌, ◌||◌, ◌==◌, not, is_none, nat_eq, IsTrue, MatchBool}
use Rattle.std.specs.List.{list_any, AllByRecursion, IsDistinct}
use Rattle.std.specs.Str.{bytes_eq}
use Rattle.std.proofs.lemmas.Bool.{and_parts, not-true, eqb-true}
use Rattle.std.proofs.lemmas.List.{map-append}
use Rattle.list_law.proofs.Each.{AllByRecursion-push, AllByRecursion-weaker, AllByRecursion-append_parts, AllByRecursion-from_list_any}
use Rattle.list_law.proofs.Options.{is_none_parts}
use Rattle.list_law.proofs.Texts.{bytes_eq_apart}
use Rattle.net_base.specs.NameRule.{is_name}
use Rattle.net_base.specs.Numbers.{is_router_as, is_peer_as, is_tag, no_tag}
use Rattle.net_base.specs.Prefixes.{PlainPattern}
use Rattle.config_base.specs.declared.config.RouterConfig.{RouterConfig}
use Rattle.config_base.specs.declared.config.Session.{Session}
use Rattle.config_base.specs.declared.config.Import.{Import}
use Rattle.config_base.specs.declared.config.Export.{Export}
use Rattle.config_base.specs.declared.config.Origination.{Origination}
use Rattle.config_base.specs.Configs.{IsClass, HasTag, IsImport, IsExport, IsOrigination, IsSession, IsRouter, origination_key}
use Rattle.config_text.specs.Spelled.{ArePatterns, HasPrefix, IsNamed, HasLawfulParts, IsLawful}
use Rattle.config_lines.specs.declared.edition.Edition.TheVariants.{Second}
use Rattle.config_lines.specs.declared.line.Line.{Line}
use Rattle.config_lines.specs.declared.line.Line.TheVariants as line
use Rattle.config_lines.specs.LineText.{IsLine}
use Rattle.config_reader.specs.Order.{ascends, import_key, export_key}
use Rattle.config_reader.specs.declared.reading.OpenRouter.{OpenRouter}
use Rattle.config_reader.specs.declared.reading.Reading.{Reading}
use Rattle.config_reader.specs.Reading.{after, closed, same_router, stood_before, same_kind}
use Rattle.config_reader.proofs.Ascending.{ascend_push, distinct_push}
use Rattle.config_reader.proofs.Steps.{class_ok, router_ok, own_ok, neighbour_ok, import_ok, export_ok, end_ok, new_router, with_open, router_with_own, new_session}
use Rattle.config_reader.proofs.Steps.{with_session, with_block, session_with_import, session_with_export}

-- a router's block that keeps the rules
pub record IsGood (count : ℕ) (r : RouterConfig) : Type 0 where
  pub rules : IsRouter count r
  pub parts : HasLawfulParts r

-- the router whose block is open, as it is so far
abbrev pub open_routers : Option OpenRouter → List RouterConfig
open_routers None = []
open_routers (Some o) = closed o.router o.block ∷ []

-- its names are those of its neighbours, of which there is none before one's block was opened
abbrev pub KnowsNames : Option OpenRouter → Type 0
KnowsNames None = Unit {0}
KnowsNames (Some o) = (o.names ≡ map (λ (s : Session). s.name) (closed o.router o.block).sessions) × (o.block ≡ None → o.router.sessions ≡ [])

pub record AreRouters (count : ℕ) (rs : List RouterConfig) : Type 0 where
  pub good : AllByRecursion (IsGood count) rs
  pub names : IsDistinct bytes_eq (map (λ (r : RouterConfig). r.name) rs)
  pub asns : IsDistinct nat_eq (map (λ (r : RouterConfig). r.asn) rs)
  pub ids : IsDistinct nat_eq (map (λ (r : RouterConfig). r.id) rs)

pub record IsReading (r : Reading) : Type 0 where
  pub filled : AllByRecursion (λ (ps : List PlainPattern). ps ≢ []) r.classes
  pub are : AllByRecursion ArePatterns r.classes
  pub routers : AreRouters (length r.classes) (r.routers ++ open_routers r.opened)
  pub known : KnowsNames r.opened

no_routers : (count : ℕ) → AreRouters count []
unfolding IsDistinct
no_routers count = record { good = tt; names = tt; asns = tt; ids = tt }

-- the last router is another, with the same name and numbers
replaced : (count : ℕ) (rs : List RouterConfig) (q p : RouterConfig) → AreRouters count (rs ++ q ∷ []) → q.name ≡ p.name → q.asn ≡ p.asn → q.id ≡ p.id
    → IsGood count p → AreRouters count (rs ++ p ∷ [])
replaced count rs q p are en ea ei good =
    let parts = AllByRecursion-append_parts (IsGood count) rs (q ∷ []) are.good in
    record {
      good = AllByRecursion-push (IsGood count) rs p parts.0 good;
      names = subst (IsDistinct bytes_eq) (same (λ (r : RouterConfig). r.name) en) are.names;
      asns = subst (IsDistinct nat_eq) (same (λ (r : RouterConfig). r.asn) ea) are.asns;
      ids = subst (IsDistinct nat_eq) (same (λ (r : RouterConfig). r.id) ei) are.ids;
    }
  where
    same : {K : Type 0} (key : RouterConfig → K) → key q ≡ key p → map key (rs ++ q ∷ []) ≡ map key (rs ++ p ∷ [])
    same key e = map-append key rs (q ∷ []) ∙ ap (λ k. map key rs ++ k ∷ []) e ∙ sym (map-append key rs (p ∷ []))

-- one router more, that is like none before it
one_more : (count : ℕ) (rs : List RouterConfig) (p : RouterConfig) → AreRouters count rs → list_any (same_router p.name p.asn p.id) rs ≡ false → IsGood count p → AreRouters count (rs ++ p ∷ [])
one_more count rs p are unlike good =
    let each = AllByRecursion-from_list_any (same_router p.name p.asn p.id) rs unlike in
    record {
      good = AllByRecursion-push (IsGood count) rs p are.good good;
      names = distinct_push bytes_eq (λ (r : RouterConfig). r.name) rs p (AllByRecursion-weaker _ _ rs (λ r h. (parts r h).2) each) are.names;
      asns = distinct_push nat_eq (λ (r : RouterConfig). r.asn) rs p (AllByRecursion-weaker _ _ rs (λ r h. (parts r h).0) each) are.asns;
      ids = distinct_push nat_eq (λ (r : RouterConfig). r.id) rs p (AllByRecursion-weaker _ _ rs (λ r h. (parts r h).1) each) are.ids;
    }
  where
    by : (a b c : Bool) → (a || (b || c)) ≡ false → (a ≡ false) × (b ≡ false) × (c ≡ false)
    by false false false h = (refl, refl, refl)
    by false false true h = absurd cc
    by false true c h = absurd cc
    by true b c h = absurd cc

    parts : (r : RouterConfig) → same_router p.name p.asn p.id r ≡ false → ((r.asn == p.asn) ≡ false) × ((r.id == p.id) ≡ false) × (bytes_eq r.name p.name ≡ false)
    parts r h = by (r.asn == p.asn) (r.id == p.id) (bytes_eq r.name p.name) h

-- what was read, with the open router as another
opened_as : (r s : Reading) (o q : OpenRouter) → IsReading r → r.opened ≡ Some o → with_open r q ≡ s
    → (closed o.router o.block).name ≡ (closed q.router q.block).name → (closed o.router o.block).asn ≡ (closed q.router q.block).asn → (closed o.router o.block).id ≡ (closed q.router q.block).id
    → IsGood (length r.classes) (closed q.router q.block) → KnowsNames (Some q) → IsReading s
opened_as r s o q is at made en ea ei good known =
    let before : AreRouters (length r.classes) (r.routers ++ closed o.router o.block ∷ []) =
    subst (λ (x : Option OpenRouter). AreRouters (length r.classes) (r.routers ++ open_routers x)) at is.routers in
    subst IsReading made
    (record { filled = is.filled; are = is.are; routers = replaced (length r.classes) r.routers (closed o.router o.block) (closed q.router q.block) before en ea ei good; known = known })

-- the open router as it is
pub open_good : (r : Reading) (o : OpenRouter) → IsReading r → r.opened ≡ Some o → IsGood (length r.classes) (closed o.router o.block) × KnowsNames (Some o)
open_good r o is at =
    let before : AreRouters (length r.classes) (r.routers ++ closed o.router o.block ∷ []) =
    subst (λ (x : Option OpenRouter). AreRouters (length r.classes) (r.routers ++ open_routers x)) at is.routers in
    ((AllByRecursion-append_parts (IsGood (length r.classes)) r.routers (closed o.router o.block ∷ []) before.good).1.0, subst KnowsNames at is.known)

-- ---- each line

class_keeps : (r s : Reading) (number : Option ℕ) (patterns : List PlainPattern) → IsReading r → patterns ≢ [] → ArePatterns patterns → after r (line.Class number patterns) ≡ Ok s → IsReading s
class_keeps r s number patterns is some are h =
    let k = class_ok r s number patterns h in
    let both = and_parts (is_none r.opened) (length r.routers == 0) k.0 in
    let none : r.opened ≡ None = is_none_parts r.opened both.0 in
    let empty : r.routers ≡ [] = nothing r.routers (eqb-true (length r.routers) 0 both.1) in
    let whole : r.routers ++ open_routers r.opened ≡ [] = ap (λ (rs : List RouterConfig). rs ++ open_routers r.opened) empty ∙ ap open_routers none in
    let count : ℕ = length (r.classes ++ patterns ∷ []) in
    subst IsReading k.2 (record {
      filled = AllByRecursion-push (λ (ps : List PlainPattern). ps ≢ []) r.classes patterns is.filled some;
      are = AllByRecursion-push ArePatterns r.classes patterns is.are are;
      routers = subst (AreRouters count) (sym whole) (no_routers count);
      known = is.known;
    })
  where
    nothing : (rs : List RouterConfig) → length rs ≡ 0 → rs ≡ []
    nothing [] e = refl
    nothing (x ∷ xs) e = absurd (omega (arith, e))

router_keeps : (r s : Reading) (name : List ℕ) (asn id : ℕ) → IsReading r → IsLine Second (length r.classes) (line.Router name asn id) → after r (line.Router name asn id) ≡ Ok s → IsReading s
unfolding IsDistinct
router_keeps r s name asn id is l h =
    let k = router_ok r s name asn id h in
    let none : r.opened ≡ None = is_none_parts r.opened k.0 in
    let before : AreRouters (length r.classes) r.routers = subst (AreRouters (length r.classes)) (ap (λ (x : Option OpenRouter). r.routers ++ open_routers x) none ∙ append-nil r.routers) is.routers in
    let rules : IsRouter (length r.classes) (new_router name asn id) = record { number = l.1; identifier = (l.2, l.3); own = tt; own_order = tt; sessions = tt; names = tt } in
    let parts : HasLawfulParts (new_router name asn id) = record { name = l.0; prefixes = tt; names = tt } in
    subst IsReading k.2 (record {
      filled = is.filled;
      are = is.are;
      routers = one_more (length r.classes) r.routers (new_router name asn id) before (not-true (stood_before name asn id r.routers) k.1) (record { rules = rules; parts = parts });
      known = (refl, (λ _. refl));
    })

own_keeps : (r s : Reading) (own : Origination) → IsReading r → IsLine Second (length r.classes) (line.Origination own) → after r (line.Origination own) ≡ Ok s → IsReading s
own_keeps r s own is l h =
    let k = own_ok r s own h in
    let o : OpenRouter = k.0 in
    let both = and_parts (is_none o.block) _ k.2 in
    let none : o.block ≡ None = is_none_parts o.block both.0 in
    let now = open_good r o is k.1 in
    let shut : closed o.router o.block ≡ o.router = ap (closed o.router) none in
    let good : IsGood (length r.classes) o.router = subst (IsGood (length r.classes)) shut now.0 in
    let q : OpenRouter = router_with_own o own in
    let shut_q : closed q.router q.block ≡ q.router = ap (closed q.router) none in
    let rules : IsRouter (length r.classes) q.router = record {
      number = good.rules.number;
      identifier = good.rules.identifier;
      own = AllByRecursion-push (IsOrigination (length r.classes)) o.router.own own good.rules.own l.0;
      own_order = ascend_push origination_key o.router.own own good.rules.own_order both.1;
      sessions = good.rules.sessions;
      names = good.rules.names;
    } in
    let parts : HasLawfulParts q.router = record { name = good.parts.name; prefixes = AllByRecursion-push HasPrefix o.router.own own good.parts.prefixes l.1; names = good.parts.names } in
    opened_as r s o q is k.1 k.3
    (ap (λ (x : RouterConfig). x.name) (shut ∙ refl) ∙ sym (ap (λ (x : RouterConfig). x.name) shut_q))
    (ap (λ (x : RouterConfig). x.asn) shut ∙ sym (ap (λ (x : RouterConfig). x.asn) shut_q))
    (ap (λ (x : RouterConfig). x.id) shut ∙ sym (ap (λ (x : RouterConfig). x.id) shut_q))
    (subst (IsGood (length r.classes)) (sym shut_q) (record { rules = rules; parts = parts }))
    (now.1.0 ∙ ap (λ (x : RouterConfig). map (λ (s : Session). s.name) x.sessions) shut ∙ sym (ap (λ (x : RouterConfig). map (λ (s : Session). s.name) x.sessions) shut_q), now.1.1)

some_not_none : {A : Type 0} {x : A} → Some x ≡ None → ⊥
some_not_none e = cc

-- a router with one session more
abbrev with_sessions : RouterConfig → List Session → RouterConfig
with_sessions r ss = record { name = r.name; asn = r.asn; id = r.id; own = r.own; sessions = ss }

neighbour_keeps : (peer : Bool) (r s : Reading) (name : List ℕ) (asn : ℕ) → IsReading r → IsTrue (is_name name) → MatchBool peer (IsTrue (is_peer_as asn)) (IsTrue (is_router_as asn))
    → (o : OpenRouter) → r.opened ≡ Some o → not (list_any (bytes_eq name) o.names) ≡ true → with_open r (with_session o peer name asn) ≡ s → IsReading s
neighbour_keeps peer r s name asn is named number o at unlike made =
    let now = open_good r o is at in
    let p : RouterConfig = closed o.router o.block in
    let new : Session = new_session name asn peer in
    let fresh : list_any (bytes_eq name) (map (λ (s : Session). s.name) p.sessions) ≡ false = ap (list_any (bytes_eq name)) (sym now.1.0) ∙ not-true (list_any (bytes_eq name) o.names) unlike in
    let each : AllByRecursion (λ (x : Session). bytes_eq x.name name ≡ false) p.sessions = apart p.sessions fresh in
    let session : IsSession (length r.classes) new = record { number = number; imports = tt; import_order = tt; exports = tt; export_order = tt } in
    let rules : IsRouter (length r.classes) (with_sessions p (p.sessions ++ new ∷ [])) = record {
      number = now.0.rules.number;
      identifier = now.0.rules.identifier;
      own = now.0.rules.own;
      own_order = now.0.rules.own_order;
      sessions = AllByRecursion-push (IsSession (length r.classes)) p.sessions new now.0.rules.sessions session;
      names = distinct_push bytes_eq (λ (s : Session). s.name) p.sessions new each now.0.rules.names;
    } in
    let parts : HasLawfulParts (with_sessions p (p.sessions ++ new ∷ [])) =
    record { name = now.0.parts.name; prefixes = now.0.parts.prefixes; names = AllByRecursion-push IsNamed p.sessions new now.0.parts.names named }
    in
    opened_as r s o (with_session o peer name asn) is at made refl refl refl (record { rules = rules; parts = parts })
    (ap (λ (ns : List (List ℕ)). ns ++ name ∷ []) now.1.0 ∙ sym (map-append (λ (s : Session). s.name) p.sessions (new ∷ [])), (λ e. absurd (some_not_none e)))
  where
    apart : (ss : List Session) → list_any (bytes_eq name) (map (λ (s : Session). s.name) ss) ≡ false → AllByRecursion (λ (x : Session). bytes_eq x.name name ≡ false) ss
    apart [] e = tt
    apart (x ∷ xs) e = by (bytes_eq name x.name) refl e (apart xs)
      where
        by : (b : Bool) → bytes_eq name x.name ≡ b → (b || list_any (bytes_eq name) (map (λ (s : Session). s.name) xs)) ≡ false
            → (list_any (bytes_eq name) (map (λ (s : Session). s.name) xs) ≡ false → AllByRecursion (λ (x : Session). bytes_eq x.name name ≡ false) xs)
            → (bytes_eq x.name name ≡ false) × AllByRecursion (λ (x : Session). bytes_eq x.name name ≡ false) xs
        by true f k later = absurd cc
        by false f k later = (bytes_eq_apart name x.name f, later k)

-- a block is another of the same name
block_as : (r s : Reading) (o : OpenRouter) (b c : Session) → IsReading r → r.opened ≡ Some o → o.block ≡ Some b → with_open r (with_block o c) ≡ s → b.name ≡ c.name
    → (IsSession (length r.classes) b → IsSession (length r.classes) c) → IsReading s
block_as r s o b c is at held made same keeps =
    let now = open_good r o is at in
    let shut : closed o.router o.block ≡ with_sessions o.router (o.router.sessions ++ b ∷ []) = ap (closed o.router) held in
    let good : IsGood (length r.classes) (with_sessions o.router (o.router.sessions ++ b ∷ [])) = subst (IsGood (length r.classes)) shut now.0 in
    let sessions = AllByRecursion-append_parts (IsSession (length r.classes)) o.router.sessions (b ∷ []) good.rules.sessions in
    let names = AllByRecursion-append_parts IsNamed o.router.sessions (b ∷ []) good.parts.names in
    let alike : map (λ (s : Session). s.name) (o.router.sessions ++ b ∷ []) ≡ map (λ (s : Session). s.name) (o.router.sessions ++ c ∷ []) =
    map-append (λ (s : Session). s.name) o.router.sessions (b ∷ [])
    ∙ ap (λ (n : List ℕ). map (λ (s : Session). s.name) o.router.sessions ++ n ∷ []) same
    ∙ sym (map-append (λ (s : Session). s.name) o.router.sessions (c ∷ [])) in
    let rules : IsRouter (length r.classes) (with_sessions o.router (o.router.sessions ++ c ∷ [])) = record {
      number = good.rules.number;
      identifier = good.rules.identifier;
      own = good.rules.own;
      own_order = good.rules.own_order;
      sessions = AllByRecursion-push (IsSession (length r.classes)) o.router.sessions c sessions.0 (keeps sessions.1.0);
      names = subst (IsDistinct bytes_eq) alike good.rules.names;
    } in
    let named : IsTrue (is_name c.name) = subst (λ (n : List ℕ). IsTrue (is_name n)) same names.1.0 in
    let parts : HasLawfulParts (with_sessions o.router (o.router.sessions ++ c ∷ [])) =
    record { name = good.parts.name; prefixes = good.parts.prefixes; names = AllByRecursion-push IsNamed o.router.sessions c names.0 named } in
    opened_as r s o (with_block o c) is at made
    (ap (λ (x : RouterConfig). x.name) shut) (ap (λ (x : RouterConfig). x.asn) shut) (ap (λ (x : RouterConfig). x.id) shut)
    (record { rules = rules; parts = parts })
    (now.1.0 ∙ ap (λ (x : RouterConfig). map (λ (s : Session). s.name) x.sessions) shut ∙ alike, (λ e. absurd (some_not_none e)))

pub kind_same : (a b : Bool) → same_kind a b ≡ true → a ≡ b
kind_same true true h = refl
kind_same true false h = absurd cc
kind_same false true h = absurd cc
kind_same false false h = refl

import_keeps : (peer : Bool) (r s : Reading) (rule : Import) → IsReading r → MatchBool peer (rule.tag ≡ no_tag) (IsTrue (is_tag rule.tag))
    → IsClass (length r.classes) rule.class → IsTrue (is_tag rule.set) → rule.pref < 2 ^ 32
    → (o : OpenRouter) (b : Session) → r.opened ≡ Some o → o.block ≡ Some b → same_kind b.peer peer ≡ true
    → ascends import_key b.imports (import_key rule) ≡ true → with_open r (with_block o (session_with_import b rule)) ≡ s → IsReading s
import_keeps peer r s rule is tagged class set pref o b at held kind up made =
    let tag : HasTag b rule.tag = subst (λ (p : Bool). MatchBool p (rule.tag ≡ no_tag) (IsTrue (is_tag rule.tag))) (sym (kind_same b.peer peer kind)) tagged in
    block_as r s o b (session_with_import b rule) is at held made refl (λ (k : IsSession (length r.classes) b). record {
      number = k.number;
      imports = AllByRecursion-push (IsImport (length r.classes) b) b.imports rule k.imports (class, tag, set, pref);
      import_order = ascend_push import_key b.imports rule k.import_order up;
      exports = k.exports;
      export_order = k.export_order;
    })

export_keeps : (r s : Reading) (export : Export) → IsReading r → IsExport (length r.classes) export
    → (o : OpenRouter) (b : Session) → r.opened ≡ Some o → o.block ≡ Some b → ascends export_key b.exports (export_key export) ≡ true
    → with_open r (with_block o (session_with_export b export)) ≡ s → IsReading s
export_keeps r s export is l o b at held up made =
    block_as r s o b (session_with_export b export) is at held made refl (λ (k : IsSession (length r.classes) b). record {
      number = k.number;
      imports = k.imports;
      import_order = k.import_order;
      exports = AllByRecursion-push (IsExport (length r.classes)) b.exports export k.exports l;
      export_order = ascend_push export_key b.exports export k.export_order up;
    })

end_keeps : (r s : Reading) → IsReading r → after r line.End ≡ Ok s → IsReading s
end_keeps r s is h =
    let k = end_ok r s h in
    let o : OpenRouter = k.0 in
    let before : AreRouters (length r.classes) (r.routers ++ closed o.router o.block ∷ []) =
    subst (λ (x : Option OpenRouter). AreRouters (length r.classes) (r.routers ++ open_routers x)) k.1 is.routers in
    subst IsReading k.2 (record { filled = is.filled; are = is.are; routers = subst (AreRouters (length r.classes)) (sym (append-nil (r.routers ++ closed o.router o.block ∷ []))) before; known = tt })

-- what was read keeps the rules with a line more that keeps its own
pub after_keeps : (r s : Reading) (l : Line) → IsReading r → IsLine Second (length r.classes) l → after r l ≡ Ok s → IsReading s
after_keeps r s (line.Class number patterns) is l h = class_keeps r s number patterns is l.1 l.2 h
after_keeps r s (line.Router name asn id) is l h = router_keeps r s name asn id is l h
after_keeps r s (line.Origination own) is l h = own_keeps r s own is l h
after_keeps r s (line.Session name asn) is l h = let k = neighbour_ok false r s name asn h in neighbour_keeps false r s name asn is l.0 l.1 k.0 k.1 k.2 k.3
after_keeps r s (line.Peer name asn) is l h = let k = neighbour_ok true r s name asn h in neighbour_keeps true r s name asn is l.0 l.1 k.0 k.1 k.2 k.3
after_keeps r s (line.Import rule) is l h =
    let k = import_ok false r s rule h in import_keeps false r s rule is l.0 l.1.0 l.1.1 l.1.2 k.0 k.1 k.2 k.3
    (and_parts (same_kind k.1.peer false) _ k.4).0 k.5 k.6
after_keeps r s (line.PeerImport rule) is l h =
    let k = import_ok true r s rule h in import_keeps true r s rule is l.0 l.1.0 l.1.1 l.1.2 k.0 k.1 k.2 k.3
    (and_parts (same_kind k.1.peer true) _ k.4).0 k.5 k.6
after_keeps r s (line.Export export) is l h = let k = export_ok r s export h in export_keeps r s export is l k.0 k.1 k.2 k.3 k.4 k.5
after_keeps r s line.End is l h = end_keeps r s is h

pub opening_keeps : IsReading (record { classes = []; routers = []; opened = None })
opening_keeps = record { filled = tt; are = tt; routers = no_routers 0; known = tt }

-- a lawful configuration, where nothing is open
pub reading_lawful : (r : Reading) → IsReading r → r.opened ≡ None → length r.classes < 2 ^ 32 → IsLawful (record { classes = r.classes; routers = r.routers })
reading_lawful r is none few =
    let all : AreRouters (length r.classes) r.routers = subst (AreRouters (length r.classes)) (ap (λ (x : Option OpenRouter). r.routers ++ open_routers x) none ∙ append-nil r.routers) is.routers in
    record {
      rules = record {
        count = few;
        patterns = is.filled;
        routers = AllByRecursion-weaker (IsGood (length r.classes)) (IsRouter (length r.classes)) r.routers (λ x g. g.rules) all.good;
        names = all.names;
        asns = all.asns;
        ids = all.ids;
      };
      patterns = is.are;
      routers = AllByRecursion-weaker (IsGood (length r.classes)) HasLawfulParts r.routers (λ x g. g.parts) all.good;
    }
