-- The lines of a configuration are taken one after another.
use Rattle.std.proofs.Common.{◌≡◌, ℕ, ◌+◌, ◌<◌, ◌≤◌, List, [], ◌∷◌, ◌++◌, length, map, Bool, true, false, Option, Some, None, Result, Ok, refl, sym, ◌∙◌, ap, subst, arith}
use Rattle.std.proofs.Common.{inl, inr, append-nil, append_assoc, length-append}
use Rattle.std.specs.Prelude.{◌&&◌, ◌||◌, ◌==◌, nat_eq, nat_lt, if◌then◌else◌}
use Rattle.std.specs.List.{list_any, flat_map, AllByRecursion, IsDistinct}
use Rattle.std.specs.Option.{option_map}
use Rattle.std.specs.Str.{bytes_eq}
use Rattle.std.proofs.lemmas.Bool.{cases_lt, eq-eqb, lt-ltb, le-ltb}
use Rattle.std.proofs.lemmas.List.{map-append}
use Rattle.list_law.proofs.Keys.{others_before}
use Rattle.list_law.proofs.Numbers.{nat_eq_apart}
use Rattle.list_law.proofs.Texts.{bytes_eq_apart}
use Rattle.net_base.specs.Prefixes.{PlainPattern}
use Rattle.config_base.specs.declared.config.RouterConfig.{RouterConfig}
use Rattle.config_base.specs.declared.config.Session.{Session}
use Rattle.config_base.specs.declared.config.Import.{Import}
use Rattle.config_base.specs.declared.config.Export.{Export}
use Rattle.config_base.specs.declared.config.Origination.{Origination}
use Rattle.config_base.specs.Configs.{Key, IsBelow, Ascend, IsSession, IsRouter, origination_key}
use Rattle.config_lines.specs.declared.line.Line.{Line}
use Rattle.config_lines.specs.declared.line.Line.TheVariants as line
use Rattle.config_text.specs.ConfigLines.{lines_of_classes, head_of, import_of, lines_of_session, lines_before_end, lines_of_router}
use Rattle.config_reader.specs.Order.{is_below, is_above, ascends, import_key, export_key}
use Rattle.config_reader.specs.declared.reading.OpenRouter.{OpenRouter}
use Rattle.config_reader.specs.declared.reading.Reading.{Reading}
use Rattle.config_reader.specs.declared.reading.Misplaced.{Misplaced}
use Rattle.config_reader.specs.Reading.{after, with_class, with_router, own_into, neighbour_into, import_into, export_into, in_neighbour, in_router, with_end, closed, stood_before}
use Rattle.config_lines.proofs.Runs.{run as run_by, run_step, run_append}
use Rattle.config_reader.proofs.Ascending.{last_later}
use Rattle.config_reader.proofs.Steps.{with_block}

abbrev pub run : Reading → List Line → Result Reading Misplaced
run = run_by after

abbrev pub at : List (List PlainPattern) → List RouterConfig → Option OpenRouter → Reading
at cs rs o = record { classes = cs; routers = rs; opened = o }

-- ---- classes

pub class_step : (cs : List (List PlainPattern)) (ps : List PlainPattern) → after (at cs [] None) (line.Class (Some (length cs + 1)) ps) ≡ Ok (at (cs ++ ps ∷ []) [] None)
unfolding with_class
class_step cs ps = rw (eq-eqb (length cs + 1) (length cs + 1) refl) refl

pub run_classes : (done cs : List (List PlainPattern)) → run (at done [] None) (lines_of_classes (length done + 1) cs) ≡ Ok (at (done ++ cs) [] None)
run_classes done [] = ap (λ (x : List (List PlainPattern)). let q : Result Reading Misplaced = Ok (at x [] None) in q) (sym (append-nil done))
run_classes done (c ∷ cs) =
    let same : length done + 1 + 1 ≡ length (done ++ c ∷ []) + 1 = rw (length-append done (c ∷ [])) (omega arith) in
    run_step after (at done [] None) (at (done ++ c ∷ []) [] None) (at (done ++ c ∷ cs) [] None) (line.Class (Some (length done + 1)) c) (lines_of_classes (length done + 1 + 1) cs) (class_step done c)
    (ap (λ (k : ℕ). run (at (done ++ c ∷ []) [] None) (lines_of_classes k cs)) same
    ∙ run_classes (done ++ c ∷ []) cs
    ∙ ap (λ (x : List (List PlainPattern)). let q : Result Reading Misplaced = Ok (at x [] None) in q) (append_assoc done (c ∷ []) cs))

-- ---- lists that ascend

below_there : (a b : Key) → IsBelow a b → is_below a b ≡ true
below_there a b h = elim (cases_lt a.first b.first) [
  | inl t ↦ rw (lt-ltb a.first b.first t) refl
  | inr t ↦
      let same : a.first ≡ b.first = omega (arith, t, h.0) in
      rw (le-ltb a.first b.first t, eq-eqb a.first b.first same) (seconds (h.1 same))
]
  where
    seconds : (a.second ≤ b.second) × (a.second ≡ b.second → a.third < b.third) → (nat_lt a.second b.second || (a.second == b.second && nat_lt a.third b.third)) ≡ true
    seconds k = elim (cases_lt a.second b.second) [
      | inl t ↦ rw (lt-ltb a.second b.second t) refl
      | inr t ↦
          let same : a.second ≡ b.second = omega (arith, t, k.0) in
          rw (le-ltb a.second b.second t, eq-eqb a.second b.second same, lt-ltb a.third b.third (k.1 same)) refl
    ]

ascends_there : {A : Type 0} (key : A → Key) (xs : List A) (x : A) (more : List A) → Ascend (map key (xs ++ x ∷ more)) → ascends key xs (key x) ≡ true
ascends_there key [] x more up = refl
ascends_there key (y ∷ []) x more up = below_there (key y) (key x) up.0.0
ascends_there key (y ∷ z ∷ xs) x more up = ap (λ o. is_above (option_map key o) (key x)) (last_later key y z xs) ∙ ascends_there key (z ∷ xs) x more up.1

module _ {A : Type 0} (f : A → Line) (key : A → Key) (state : List A → Reading)
    (step : (done : List A) (x : A) → ascends key done (key x) ≡ true → after (state done) (f x) ≡ Ok (state (done ++ x ∷ []))) where
  run_each : (done xs : List A) → Ascend (map key (done ++ xs)) → run (state done) (map f xs) ≡ Ok (state (done ++ xs))
  run_each done [] up = ap (λ (x : List A). let q : Result Reading Misplaced = Ok (state x) in q) (sym (append-nil done))
  run_each done (x ∷ xs) up =
      let later : Ascend (map key ((done ++ x ∷ []) ++ xs)) = subst (λ (l : List A). Ascend (map key l)) (sym (append_assoc done (x ∷ []) xs)) up in
      run_step after (state done) (state (done ++ x ∷ [])) (state (done ++ x ∷ xs)) (f x) (map f xs) (step done x (ascends_there key done x xs up))
      (run_each (done ++ x ∷ []) xs later ∙ ap (λ (l : List A). let q : Result Reading Misplaced = Ok (state l) in q) (append_assoc done (x ∷ []) xs))

-- ---- a neighbour

abbrev block_of : Session → List Import → List Export → Session
block_of s imports exports = record { name = s.name; asn = s.asn; peer = s.peer; imports = imports; exports = exports }

abbrev block_by : Bool → Session → List Import → Session
block_by b s imports = record { name = s.name; asn = s.asn; peer = b; imports = imports; exports = [] }

abbrev begun : OpenRouter → Session → OpenRouter
begun o s = record { router = closed o.router o.block; names = o.names ++ s.name ∷ []; block = Some (block_of s [] []) }

abbrev ended : OpenRouter → Session → OpenRouter
ended o s = record { router = closed o.router o.block; names = o.names ++ s.name ∷ []; block = Some s }

module _ (cs : List (List PlainPattern)) (rs : List RouterConfig) where
  head_step : (o : OpenRouter) (s : Session) → list_any (bytes_eq s.name) o.names ≡ false → after (at cs rs (Some o)) (head_of s) ≡ Ok (at cs rs (Some (begun o s)))
  unfolding in_router neighbour_into
  head_step o s fresh = by s.peer
    where
      by : (b : Bool) → after (at cs rs (Some o)) (if b then line.Peer s.name s.asn else line.Session s.name s.asn)
          ≡ Ok (at cs rs
          (Some (record { router = closed o.router o.block; names = o.names ++ s.name ∷ []; block = Some (record { name = s.name; asn = s.asn; peer = b; imports = []; exports = [] }) })))
      by true = rw fresh refl
      by false = rw fresh refl

  import_step : (o : OpenRouter) (s : Session) (done : List Import) (x : Import) → ascends import_key done (import_key x) ≡ true
      → after (at cs rs (Some (with_block o (block_of s done [])))) (import_of s.peer x) ≡ Ok (at cs rs (Some (with_block o (block_of s (done ++ x ∷ []) []))))
  unfolding in_router in_neighbour import_into
  import_step o s done x up = by s.peer
    where
      by : (b : Bool) → after (at cs rs (Some (with_block o (block_by b s done)))) (import_of b x) ≡ Ok (at cs rs (Some (with_block o (block_by b s (done ++ x ∷ [])))))
      by true = rw up refl
      by false = rw up refl

  export_step : (o : OpenRouter) (s : Session) (imports : List Import) (done : List Export) (x : Export) → ascends export_key done (export_key x) ≡ true
      → after (at cs rs (Some (with_block o (block_of s imports done)))) (line.Export x) ≡ Ok (at cs rs (Some (with_block o (block_of s imports (done ++ x ∷ [])))))
  unfolding in_router in_neighbour export_into
  export_step o s imports done x up = rw up refl

  run_session : (count : ℕ) (o : OpenRouter) (s : Session) → list_any (bytes_eq s.name) o.names ≡ false → IsSession count s
      → run (at cs rs (Some o)) (lines_of_session s) ≡ Ok (at cs rs (Some (ended o s)))
  run_session count o s fresh is =
      let imported : Reading = at cs rs (Some (with_block (begun o s) (block_of s s.imports []))) in
      run_step after (at cs rs (Some o)) (at cs rs (Some (begun o s))) (at cs rs (Some (ended o s))) (head_of s) (map (import_of s.peer) s.imports ++ map line.Export s.exports) (head_step o s fresh)
      (run_append after (at cs rs (Some (begun o s))) imported (at cs rs (Some (ended o s))) (map (import_of s.peer) s.imports) (map line.Export s.exports)
      (run_each (import_of s.peer) import_key (λ (done : List Import). at cs rs (Some (with_block (begun o s) (block_of s done [])))) (import_step (begun o s) s) [] s.imports is.import_order)
      (run_each line.Export export_key (λ (done : List Export). at cs rs (Some (with_block (begun o s) (block_of s s.imports done))))
      (export_step (begun o s) s s.imports) [] s.exports is.export_order))

  abbrev with_sessions : RouterConfig → List Session → RouterConfig
  with_sessions r ss = record { name = r.name; asn = r.asn; id = r.id; own = r.own; sessions = ss }

  abbrev names_of : List Session → List (List ℕ)
  names_of ss = map (λ (s : Session). s.name) ss

  -- what a router is after its neighbours
  record Ran (o : OpenRouter) (ss : List Session) : Type 0 where
    q : OpenRouter
    ran : run (at cs rs (Some o)) (flat_map lines_of_session ss) ≡ Ok (at cs rs (Some q))
    made : closed q.router q.block ≡ with_sessions (closed o.router o.block) ((closed o.router o.block).sessions ++ ss)

  run_sessions : (count : ℕ) (o : OpenRouter) (ss : List Session) → o.names ≡ names_of (closed o.router o.block).sessions
      → IsDistinct bytes_eq (names_of ((closed o.router o.block).sessions ++ ss)) → AllByRecursion (IsSession count) ss → Ran o ss
  run_sessions count o [] known apart all =
      let p : RouterConfig = closed o.router o.block in
      record { q = o; ran = refl; made = ap (with_sessions p) (sym (append-nil p.sessions)) }
  run_sessions count o (s ∷ ss) known apart all =
      let p : RouterConfig = closed o.router o.block in
      let named : IsDistinct bytes_eq (names_of p.sessions ++ s.name ∷ names_of ss) = subst (IsDistinct bytes_eq) (map-append (λ (s : Session). s.name) p.sessions (s ∷ ss)) apart in
      let fresh : list_any (bytes_eq s.name) o.names ≡ false = ap (list_any (bytes_eq s.name)) known ∙ others_before bytes_eq bytes_eq_apart (names_of p.sessions) s.name (names_of ss) named in
      let next_names : o.names ++ s.name ∷ [] ≡ names_of (p.sessions ++ s ∷ []) =
      ap (λ (ns : List (List ℕ)). ns ++ s.name ∷ []) known ∙ sym (map-append (λ (s : Session). s.name) p.sessions (s ∷ [])) in
      let next_apart : IsDistinct bytes_eq (names_of ((p.sessions ++ s ∷ []) ++ ss)) =
      subst (λ (l : List Session). IsDistinct bytes_eq (names_of l)) (sym (append_assoc p.sessions (s ∷ []) ss)) apart in
      let rest = run_sessions count (ended o s) ss next_names next_apart all.1 in
      record {
        q = rest.q;
        ran =
            run_append after (at cs rs (Some o)) (at cs rs (Some (ended o s))) (at cs rs (Some rest.q)) (lines_of_session s)
            (flat_map lines_of_session ss) (run_session count o s fresh all.0) rest.ran;
        made = rest.made ∙ ap (with_sessions p) (append_assoc p.sessions (s ∷ []) ss);
      }

  -- ---- a router

  abbrev headed : RouterConfig → List Origination → OpenRouter
  headed r owns = record { router = record { name = r.name; asn = r.asn; id = r.id; own = owns; sessions = [] }; names = []; block = None }

  router_step : (r : RouterConfig) → stood_before r.name r.asn r.id rs ≡ false → after (at cs rs None) (line.Router r.name r.asn r.id) ≡ Ok (at cs rs (Some (headed r [])))
  unfolding with_router
  router_step r fresh = rw fresh refl

  own_step : (r : RouterConfig) (done : List Origination) (x : Origination) → ascends origination_key done (origination_key x) ≡ true
      → after (at cs rs (Some (headed r done))) (line.Origination x) ≡ Ok (at cs rs (Some (headed r (done ++ x ∷ []))))
  unfolding in_router own_into
  own_step r done x up = rw up refl

  end_step : (q : OpenRouter) → after (at cs rs (Some q)) line.End ≡ Ok (at cs (rs ++ closed q.router q.block ∷ []) None)
  unfolding with_end
  end_step q = refl

  run_router : (count : ℕ) (r : RouterConfig) → stood_before r.name r.asn r.id rs ≡ false → IsRouter count r → run (at cs rs None) (lines_of_router r) ≡ Ok (at cs (rs ++ r ∷ []) None)
  run_router count r fresh is =
      let o : OpenRouter = headed r r.own in
      let b = run_sessions count o r.sessions refl is.names is.sessions in
      let whole : closed b.q.router b.q.block ≡ r = b.made in
      run_append after (at cs rs None) (at cs rs (Some b.q)) (at cs (rs ++ r ∷ []) None) (lines_before_end r) (line.End ∷ [])
      (run_step after (at cs rs None) (at cs rs (Some (headed r []))) (at cs rs (Some b.q)) (line.Router r.name r.asn r.id)
      (map line.Origination r.own ++ flat_map lines_of_session r.sessions) (router_step r fresh)
      (run_append after (at cs rs (Some (headed r []))) (at cs rs (Some o)) (at cs rs (Some b.q)) (map line.Origination r.own) (flat_map lines_of_session r.sessions)
      (run_each line.Origination origination_key (λ (done : List Origination). at cs rs (Some (headed r done))) (own_step r) [] r.own is.own_order) b.ran))
      (run_step after (at cs rs (Some b.q)) (at cs (rs ++ closed b.q.router b.q.block ∷ []) None) (at cs (rs ++ r ∷ []) None) line.End [] (end_step b.q)
      (ap (λ (x : RouterConfig). let q : Result Reading Misplaced = Ok (at cs (rs ++ x ∷ []) None) in q) whole))

-- none is like it
unlike : (name : List ℕ) (asn id : ℕ) (rs : List RouterConfig) → list_any (bytes_eq name) (map (λ (r : RouterConfig). r.name) rs) ≡ false
    → list_any (nat_eq asn) (map (λ (r : RouterConfig). r.asn) rs) ≡ false → list_any (nat_eq id) (map (λ (r : RouterConfig). r.id) rs) ≡ false
    → stood_before name asn id rs ≡ false
unlike name asn id [] a b c = refl
unlike name asn id (r ∷ rs) a b c =
    let x = either (bytes_eq name r.name) _ a in
    let y = either (nat_eq asn r.asn) _ b in
    let z = either (nat_eq id r.id) _ c in
    rw (nat_eq_apart asn r.asn y.0, nat_eq_apart id r.id z.0, bytes_eq_apart name r.name x.0) (unlike name asn id rs x.1 y.1 z.1)
  where
    either : (p q : Bool) → (p || q) ≡ false → (p ≡ false) × (q ≡ false)
    either false false h = (refl, refl)
    either false true h = absurd cc
    either true q h = absurd cc

-- the routers one after another
pub record AreApart (rs : List RouterConfig) : Type 0 where
  pub names : IsDistinct bytes_eq (map (λ (r : RouterConfig). r.name) rs)
  pub asns : IsDistinct nat_eq (map (λ (r : RouterConfig). r.asn) rs)
  pub ids : IsDistinct nat_eq (map (λ (r : RouterConfig). r.id) rs)

pub run_routers : (count : ℕ) (cs : List (List PlainPattern)) (done rs : List RouterConfig) → AreApart (done ++ rs)
    → AllByRecursion (IsRouter count) rs → run (at cs done None) (flat_map lines_of_router rs) ≡ Ok (at cs (done ++ rs) None)
run_routers count cs done [] apart all = ap (λ (x : List RouterConfig). let q : Result Reading Misplaced = Ok (at cs x None) in q) (sym (append-nil done))
run_routers count cs done (r ∷ rs) apart all =
    let fresh : stood_before r.name r.asn r.id done ≡ false = unlike r.name r.asn r.id done
    (others_before bytes_eq bytes_eq_apart (map (λ (r : RouterConfig). r.name) done) r.name (map (λ (r : RouterConfig). r.name) rs)
    (subst (IsDistinct bytes_eq) (map-append (λ (r : RouterConfig). r.name) done (r ∷ rs)) apart.names))
    (others_before nat_eq nat_eq_apart (map (λ (r : RouterConfig). r.asn) done) r.asn (map (λ (r : RouterConfig). r.asn) rs)
    (subst (IsDistinct nat_eq) (map-append (λ (r : RouterConfig). r.asn) done (r ∷ rs)) apart.asns))
    (others_before nat_eq nat_eq_apart (map (λ (r : RouterConfig). r.id) done) r.id (map (λ (r : RouterConfig). r.id) rs)
    (subst (IsDistinct nat_eq) (map-append (λ (r : RouterConfig). r.id) done (r ∷ rs)) apart.ids))
    in
    let later : AreApart ((done ++ r ∷ []) ++ rs) = subst AreApart (sym (append_assoc done (r ∷ []) rs)) apart in
    run_append after (at cs done None) (at cs (done ++ r ∷ []) None) (at cs (done ++ r ∷ rs) None) (lines_of_router r) (flat_map lines_of_router rs) (run_router cs done count r fresh all.0)
    (run_routers count cs (done ++ r ∷ []) rs later all.1 ∙ ap (λ (x : List RouterConfig). let q : Result Reading Misplaced = Ok (at cs x None) in q) (append_assoc done (r ∷ []) rs))
