use Rattle.std.proofs.Common.{◌≡◌, ◌+◌, ◌<◌, ◌++◌, ◌∷◌, [], All, length, sym, ap, subst, ◌∙◌, arith}
use Rattle.std.specs.Prelude.{slice_get}
use Rattle.std.proofs.lemmas.List.Elements.{All-push}
use Rattle.list_law.proofs.Items.{slice_get-there}
use Rattle.walk_states.specs.Table.{Key}
use Rattle.walk_states.proofs.Lookups.{absent, table-put, with_key-new, with_key-there}
use Rattle.walk_states.proofs.found.Found.insert.Goals as goal

pub returns-in-Some-clause-keys : goal.returns-in-Some-clause-keys
returns-in-Some-clause-keys c =
    let s = c.args.self.now in
    let k : Key = (c.args.at, c.args.state) in
    sym (with_key-there s.keys.items c.in-Some.number k (s.right k c.in-Some.number c.requires.within (sym c.number.ensures ∙ c.in-Some.is)))

pub returns-in-Some-clause-number : goal.returns-in-Some-clause-number
returns-in-Some-clause-number c = c.args.self.now.right (c.args.at, c.args.state) c.in-Some.number c.requires.within (sym c.number.ensures ∙ c.in-Some.is)

pub invariant_of-self-2 : goal.invariant_of-self-2
invariant_of-self-2 c =
    let s = c.args.self.now in
    let f = c.row.new.self in
    let k : Key = (c.args.at, c.args.state) in
    let low : c.args.at < f.locations = omega (arith, c.requires.within, c.row.ensures.locations) in
    let gone = absent s.locations s.rows.items s.numbers.items s.keys.items (record { inside = s.inside; apart = s.apart; right = s.right; found = s.found }) k
    (sym c.number.ensures ∙ c.in_default.is) in
    let t = table-put f.locations f.rows.items f.numbers.items f.keys.items c.push.new.self.items k c.in_ok-row.row _ c.len-number.result
    (record { inside = f.inside; apart = f.apart; right = f.right; found = f.found }) c.in_ok-row.ensures.row low
    (λ n g. gone n (ap (λ v. slice_get v.items n) (sym c.row.ensures.keys) ∙ g)) (ap (λ n. c.in_ok-row.row + n) c.number-2.ensures)
    (omega (arith, c.len-number.ensures, f.keys.ok.0)) c.in_ok-push.ensures.items in
    record {
      within = subst (All (λ (j : Key). j.0 < f.locations)) (sym c.in_ok-push.ensures.items) (All-push (λ (j : Key). j.0 < f.locations) f.keys.items k f.within low);
      inside = t.inside;
      apart = t.apart;
      right = t.right;
      found = t.found;
    }

pub returns-clause-keys : goal.returns-clause-keys
returns-clause-keys c =
    let s = c.args.self.now in
    let k : Key = (c.args.at, c.args.state) in
    let gone = absent s.locations s.rows.items s.numbers.items s.keys.items (record { inside = s.inside; apart = s.apart; right = s.right; found = s.found }) k
    (sym c.number.ensures ∙ c.in_default.is) in
    c.in_ok-push.ensures.items ∙ ap (λ v. v.items ++ k ∷ []) c.row.ensures.keys ∙ sym (with_key-new s.keys.items k gone)

pub returns-clause-number : goal.returns-clause-number
returns-clause-number c =
    let f = c.row.new.self in
    let k : Key = (c.args.at, c.args.state) in
    let size : c.len-number.result ≡ length f.keys.items = omega (arith, c.len-number.ensures, f.keys.ok.0) in
    ap (slice_get c.push.new.self.items) size ∙ ap (λ l. slice_get l (length f.keys.items)) c.in_ok-push.ensures.items ∙ slice_get-there f.keys.items k []
