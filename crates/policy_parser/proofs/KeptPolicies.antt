-- The policy that is kept behind one item more.
use Rattle.std.proofs.Common.{◌≡◌, ℕ, ◌≤◌, List, [], ◌∷◌, ◌++◌, Result, Ok, Err, refl, sym, ap, subst, ◌∙◌, arith}
use Rattle.std.specs.Prelude.{⊤}
use Rattle.net_base.specs.declared.loc.LocSet.{LocSet}
use Rattle.net_base.specs.Network.{PlainNet}
use Rattle.net_base.specs.Prefixes.{PlainPrefix}
use Rattle.policy_tokens.specs.declared.fault.PolicyFault.{PolicyFault}
use Rattle.policy_grammar.specs.declared.lexeme.Lexeme.{Lexeme}
use Rattle.policy_grammar.specs.Raw.{RawStatement, Item}
use Rattle.policy_grammar.specs.Raw.Item.{Define, Originate, State}
use Rattle.policy_rules.specs.KeptNames.{kept_set}
use Rattle.policy_rules.specs.KnownNames.{Names, net_names, with_group}
use Rattle.policy_rules.specs.Checks.{text}
use Rattle.policy_base.specs.Policies.{PlainPolicy}
use Rattle.policy_parser.specs.declared.values.OriginRead.{OriginRead}
use Rattle.policy_parser.specs.declared.values.StatementRead.{StatementRead}
use Rattle.policy_parser.specs.declared.values.ItemRead.{ItemRead}
use Rattle.policy_parser.specs.declared.values.ItemRead.TheVariants as read
use Rattle.policy_values.specs.Built.{origin_of}
use Rattle.policy_parser.specs.ItemValues.{IsOrigin, IsStatement, IsItem}
use Rattle.policy_parser.specs.SoFar.{kept_item, IsToldOf, IsKept}
use Rattle.policy_parser.specs.Told.{PlainTold, figure_told, with_members, with_origins, with_state, with_known_item, unless_broken, with_item, first_fault}
use Rattle.policy_parser.proofs.KeptNames.{keeps_group}
use Rattle.policy_parser.proofs.KeptItems.{all_origins_kept, all_statements_kept}
use Rattle.policy_parser.proofs.LikeNames.{kept_whole}
use Rattle.policy_parser.proofs.TakenItems.{origins_push, statements_push}
use Rattle.policy_parser.proofs.ToldItems.{learnt_now}
use Rattle.policy_parser.proofs.WholeTold.{IsWhole, whole, first_fault-whole, whole_before, first_ok}

figure_ok : (r : Result PlainPrefix PolicyFault) → figure_told r ≡ Ok tt → (p : PlainPrefix) × (r ≡ Ok p)
figure_ok (Ok p) h = (p, refl)
figure_ok (Err e) h = absurd cc

module _ (bytes : List ℕ) (net : PlainNet) (items : List Item) (k : Names) (t : PlainTold) (p : PlainPolicy) where
  -- a group leaves it as it was
  group_kept : (name called : Lexeme) (members : List Lexeme) (r : Result LocSet PolicyFault) → t.names ≡ Ok tt → IsToldOf bytes net k items t
      → IsKept bytes net t.known items p → IsWhole (with_members bytes t called r)
      → IsKept bytes net (with_members bytes t called r).known (items ++ Define name members ∷ []) p
  group_kept name called members (Ok s) known told kept w =
      let next = with_group t.known called.place (text bytes called) s in
      let keeps = keeps_group t.known called.place (text bytes called) s in
      let before : t.amounts.definitions ≤ 256 = omega (arith, w.definitions) in
      let names = learnt_now bytes net items k t known told ∙ ap (λ (l : Names). Ok l) (told.known.same before) in
      let whole : kept_set t.net t.known s ≡ s = kept_whole t.net t.known s (omega (arith, told.known.few before, w.definitions)) in
      rw whole (record {
        origins = rw (origins_push bytes next [] items (Define name members), ← all_origins_kept bytes net t.known next keeps (net_names net) [] items names, kept.origins) refl;
        statements = rw (statements_push bytes net next [] items (Define name members), ← all_statements_kept bytes net t.known next keeps (net_names net) [] items names, kept.statements) refl;
      })
  group_kept name called members (Err e) known told kept w = let n = w.names in absurd cc

  origin_read : (f : Lexeme) (ns : List Lexeme) (v : OriginRead) (q : PlainPrefix) (s : LocSet) → IsOrigin bytes net t.known f ns v → v.prefix ≡ Ok q
      → v.at ≡ Ok s → origin_of bytes t.known f ns ≡ Ok (record { prefix = q; at = s })
  unfolding origin_of
  origin_read f ns v q s is prefix at = rw (← is.prefix, ← is.at, prefix, at) refl

  -- an origin more
  origin_kept_at : (f : Lexeme) (ns : List Lexeme) (v : OriginRead) (q : PlainPrefix) (s : LocSet) → v.prefix ≡ Ok q → v.at ≡ Ok s
      → IsOrigin bytes net t.known f ns v → IsKept bytes net t.known items p
      → IsKept bytes net t.known (items ++ Originate f ns ∷ []) (kept_item p (read.Origin v))
  origin_kept_at f ns v q s prefix at is kept =
      let here = origin_read f ns v q s is prefix at in record {
        origins = rw (origins_push bytes t.known [] items (Originate f ns), kept.origins, here, prefix, at) refl;
        statements = rw (statements_push bytes net t.known [] items (Originate f ns), kept.statements) refl;
      }

  origin_kept : (f : Lexeme) (ns : List Lexeme) (v : OriginRead) (r : Result LocSet PolicyFault) → v.at ≡ r → IsOrigin bytes net t.known f ns v
      → IsKept bytes net t.known items p → IsWhole (with_origins t v r)
      → IsKept bytes net (with_origins t v r).known (items ++ Originate f ns ∷ []) (kept_item p (read.Origin v))
  origin_kept f ns v (Ok s) at is kept w =
      let fine = figure_ok v.prefix (first_ok t.rules.figures (figure_told v.prefix) w.figures).1 in
      origin_kept_at f ns v fine.0 s fine.1 at is kept
  origin_kept f ns v (Err e) at is kept w = let n = w.names in absurd cc

  -- a statement more
  state_kept : (s : RawStatement) (v : StatementRead) → IsStatement bytes net t.known s v → IsKept bytes net t.known items p → IsWhole (with_state t v)
      → IsKept bytes net t.known (items ++ State s ∷ []) (kept_item p (read.State v))
  state_kept s v is kept w =
      let few : v.patterns ≤ 16384 = omega (arith, w.patterns) in
      let here = is.value w.names (first_ok t.rules.figures v.figures w.figures).1 (first_ok t.rules.calls v.calls w.calls).1 (first_ok t.rules.places v.places w.places).1 few in record {
        origins = rw (origins_push bytes t.known [] items (State s), kept.origins) refl;
        statements = rw (statements_push bytes net t.known [] items (State s), kept.statements, here) refl;
      }

  known_kept : (x : Item) (v : ItemRead) → IsItem bytes net t.known x v → t.names ≡ Ok tt → IsToldOf bytes net k items t → IsKept bytes net t.known items p → IsWhole (with_known_item bytes t v)
      → IsKept bytes net (with_known_item bytes t v).known (items ++ x ∷ []) (kept_item p v)
  known_kept (Define name members) (read.Group v) is known told kept w = group_kept name v.name members v.set known told kept w
  known_kept (Originate f ns) (read.Origin v) is known told kept w = origin_kept f ns v v.at refl is kept w
  known_kept (State s) (read.State v) is known told kept w = state_kept s v is kept w
  known_kept (Define name members) (read.Origin v) is known told kept w = absurd is
  known_kept (Define name members) (read.State v) is known told kept w = absurd is
  known_kept (Originate f ns) (read.Group v) is known told kept w = absurd is
  known_kept (Originate f ns) (read.State v) is known told kept w = absurd is
  known_kept (State s) (read.Group v) is known told kept w = absurd is
  known_kept (State s) (read.Origin v) is known told kept w = absurd is

  abbrev At : Item → ItemRead → Result ⊤ PolicyFault → Type 0
  At x v r = first_fault (unless_broken r t (with_known_item bytes t v)) ≡ Ok tt → IsKept bytes net (unless_broken r t (with_known_item bytes t v)).known (items ++ x ∷ []) (kept_item p v)

  -- as long as no rule is broken and no limit is passed
  pub item_kept : (x : Item) (v : ItemRead) → IsItem bytes net t.known x v → IsToldOf bytes net k items t
      → (first_fault t ≡ Ok tt → IsKept bytes net t.known items p) → first_fault (with_item bytes t v) ≡ Ok tt
      → IsKept bytes net (with_item bytes t v).known (items ++ x ∷ []) (kept_item p v)
  item_kept x v is told kept = by t.names refl
    where
      by : (r : Result ⊤ PolicyFault) → t.names ≡ r → At x v t.names
      by (Ok u) e = subst (At x v) (sym e) (λ fine. let w = whole (with_known_item bytes t v) fine in known_kept x v is e told (kept (first_fault-whole t (whole_before bytes t v e w))) w)
      by (Err f) e = subst (At x v) (sym e) (λ fine. let n = (whole t fine).names in absurd cc)
