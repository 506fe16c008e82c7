-- What reads the items of a text.
use Rattle.std.proofs.Common.{◌≡◌, ℕ, zero, suc, ◌≤◌, ◌⊎◌, inl, inr, List, [], ◌∷◌, ◌++◌, length, length-append, Result, Ok, Err, refl, sym, ap, ◌∙◌, subst, append_assoc, append-nil, arith}
use Rattle.policy_tokens.specs.declared.fault.PolicyFault.{PolicyFault}
use Rattle.policy_tokens.specs.declared.fault.PolicyFault.TheVariants.{Syntax}
use Rattle.policy_grammar.specs.declared.lexeme.Lexeme.{Lexeme}
use Rattle.policy_grammar.specs.declared.symbol.Symbol.TheVariants.{EndOfText}
use Rattle.policy_grammar.specs.Raw.{Item}
use Rattle.policy_grammar.specs.Reading.{Read, refused, past, either}
use Rattle.policy_grammar.specs.Items.{item_at, items_from}
use Rattle.net_base.specs.Steps.{◌>>=◌}
use Rattle.net_base.proofs.StepLemmas.{bind_ok, ok_same, err_same}
use Rattle.grammar_law.specs.Grammar.{Is, IsItem, IsPolicy}
use Rattle.grammar_law.proofs.Lookups.{Isnt, is_or_isnt, past-is, past-isnt}
use Rattle.grammar_law.proofs.Readers.{head, head_is, head-tail, tail, Ended, WasRead, Stop, reads_on, all_on, by_on, ended_after, front_fits, left_fits}
use Rattle.grammar_law.proofs.WholeItems.{ItemBefore, item, item_exact, item_of, item_begins, same_item}
use Rattle.grammar_law.proofs.Nesting.{brackets}

-- items up to the end of the text, with room for m brackets in each
pub items_up : ℕ → ℕ → List Item → List Lexeme → Result (List Item) PolicyFault
items_up m zero so_far ls = Err (refused ls)
items_up m (suc c) so_far ls = either (past EndOfText ls) (λ l rest. Ok so_far) (item m ls >>= λ x. items_up m c (so_far ++ x.0 ∷ []) x.1)

next_items : (c : ℕ) (so_far : List Item) (read : Read Item) → ((more : List Item) (ls : List Lexeme) → items_up 64 c more ls ≡ items_from c more ls)
    → (read >>= λ x. items_up 64 c (so_far ++ x.0 ∷ []) x.1) ≡ (read >>= λ x. items_from c (so_far ++ x.0 ∷ []) x.1)
next_items c so_far (Err e) same = refl
next_items c so_far (Ok x) same = same (so_far ++ x.0 ∷ []) x.1

pub same_items : (c : ℕ) (so_far : List Item) (ls : List Lexeme) → items_up 64 c so_far ls ≡ items_from c so_far ls
unfolding items_up items_from
same_items zero so_far ls = refl
same_items (suc c) so_far ls =
    ap (λ z. either (past EndOfText ls) (λ l rest. Ok so_far) z)
    (ap (λ r. r >>= λ x. items_up 64 c (so_far ++ x.0 ∷ []) x.1) (same_item ls) ∙ next_items c so_far (item_at ls) (λ more ms. same_items c more ms))

-- ---- the end, and an item

items-end : (m c : ℕ) (so_far : List Item) (l : Lexeme) (ls : List Lexeme) → Is EndOfText l → items_up m (suc c) so_far (l ∷ ls) ≡ Ok so_far
unfolding items_up
items-end m c so_far l ls i = ap (λ o. either o (λ l rest. Ok so_far) (item m (l ∷ ls) >>= λ x. items_up m c (so_far ++ x.0 ∷ []) x.1)) (past-is EndOfText l ls i)

items-item : (m c : ℕ) (so_far : List Item) (ls : List Lexeme) (l : Lexeme) (rest : List Lexeme) → Isnt EndOfText (head ls l)
    → items_up m (suc c) so_far (ls ++ l ∷ rest) ≡ (item m (ls ++ l ∷ rest) >>= λ x. items_up m c (so_far ++ x.0 ∷ []) x.1)
unfolding items_up
items-item m c so_far ls l rest i =
    ap (λ o. either o (λ l rest. Ok so_far) (item m (ls ++ l ∷ rest) >>= λ x. items_up m c (so_far ++ x.0 ∷ []) x.1))
    (ap (past EndOfText) (head-tail ls l rest) ∙ past-isnt EndOfText (head ls l) (tail ls l rest) i)

-- the next item, and those behind it
items-on : (m c : ℕ) (so_far : List Item) (x : Item) (ls ks : List Lexeme) (l : Lexeme) (rest : List Lexeme) → ItemBefore x ls (head ks l) → brackets.Fits m ls → Isnt EndOfText (head (ls ++ ks) l)
    → items_up m (suc c) so_far ((ls ++ ks) ++ l ∷ rest) ≡ items_up m c (so_far ++ x ∷ []) (ks ++ l ∷ rest)
items-on m c so_far x ls ks l rest is fits i =
    items-item m c so_far (ls ++ ks) l rest i
    ∙ ap (λ z. z >>= λ x. items_up m c (so_far ++ x.0 ∷ []) x.1) (reads_on brackets m ItemBefore (item m) (item_exact.known.reads m) x ls ks l rest is fits)

-- an item is no shorter than one token
item_head : {x : Item} {ls : List Lexeme} → IsItem x ls → (ks : List Lexeme) (l : Lexeme) → Isnt EndOfText (head (ls ++ ks) l) × (suc (length ks) ≤ length (ls ++ ks))
item_head {x} {ls} is ks l =
    let b = item_begins is in
    (subst (λ z. Isnt EndOfText (head (z ++ ks) l)) (sym b.2) b.3, omega (arith, length-append ls ks, ap length b.2))

-- ---- every policy is read

pub reads_policy : (m : ℕ) (end : Lexeme) (rest : List Lexeme) → Is EndOfText end → {xs : List Item} {ls : List Lexeme} → IsPolicy xs ls → brackets.Fits m ls
    → (c : ℕ) (so_far : List Item) → length (ls ++ end ∷ rest) ≤ c → items_up m c so_far (ls ++ end ∷ rest) ≡ Ok (so_far ++ xs)
reads_policy m end rest i IsPolicy.none fits zero so_far le = absurd (omega arith)
reads_policy m end rest i IsPolicy.none fits (suc c) so_far le = items-end m c so_far end rest i ∙ ap Ok (sym (append-nil so_far))
reads_policy m end rest i (IsPolicy.more {ts = ts} {us = us} is others) fits zero so_far le = let b = item_head is us end in absurd (omega (arith, le, length-append (ts ++ us) (end ∷ rest)))
reads_policy m end rest i (IsPolicy.more {x = x} {xs = xs} {ts = ts} {us = us} is others) fits (suc c) so_far le =
    let b = item_head is us end in
    let read = item_of (head us end) is in
    let shorter : length (us ++ end ∷ rest) ≤ c = omega (arith, le, b.1, length-append (ts ++ us) (end ∷ rest), length-append us (end ∷ rest)) in
    items-on m c so_far x ts us end rest read (brackets.front m ts us fits) b.0
    ∙ reads_policy m end rest i others (item_exact.known.balanced m x ts us (head us end) read fits) c (so_far ++ x ∷ []) shorter
    ∙ ap Ok (append_assoc so_far (x ∷ []) xs)

-- ---- what is read is a policy

pub record PolicyRead (so_far : List Item) (ls : List Lexeme) (ys : List Item) : Type 0 where
  pub items : List Item
  pub front : List Lexeme
  pub end : Lexeme
  pub rest : List Lexeme
  pub all : ls ≡ front ++ end ∷ rest
  pub ends : Is EndOfText end
  pub given : ys ≡ so_far ++ items
  pub policy : IsPolicy items front

pub policy_was_read : (m c : ℕ) (so_far : List Item) (ls : List Lexeme) (ys : List Item) → Ended ls → items_up m c so_far ls ≡ Ok ys → PolicyRead so_far ls ys
unfolding items_up
policy_was_read m zero so_far ls ys ended h = absurd cc
policy_was_read m (suc c) so_far [] ys ended h = absurd ended
policy_was_read m (suc c) so_far (l ∷ ls) ys ended h = by (λ more ms ended h. policy_was_read m c more ms ys ended h) (is_or_isnt EndOfText l)
  where
    by : ((more : List Item) (ms : List Lexeme) → Ended ms → items_up m c more ms ≡ Ok ys → PolicyRead more ms ys) → Is EndOfText l ⊎ Isnt EndOfText l → PolicyRead so_far (l ∷ ls) ys
    by on (inl i) = record {
      items = [];
      front = [];
      end = l;
      rest = ls;
      all = refl;
      ends = i;
      given = sym (ok_same {F = PolicyFault} so_far ys (sym (items-end m c so_far l ls i) ∙ h)) ∙ sym (append-nil so_far);
      policy = IsPolicy.none;
    }
    by on (inr i) =
        let p = bind_ok (item m (l ∷ ls)) (λ x. items_up m c (so_far ++ x.0 ∷ []) x.1) ys (sym (items-item m c so_far [] l ls i) ∙ h) in
        let w = item_exact.known.sound m (l ∷ ls) p.0.0 p.0.1 ended p.1 in
        let r = on (so_far ++ p.0.0 ∷ []) p.0.1 (ended_after w) p.2 in
        record {
          items = p.0.0 ∷ r.items;
          front = w.front ++ r.front;
          end = r.end;
          rest = r.rest;
          all = all_on w r.front r.end r.rest r.all;
          ends = r.ends;
          given = r.given ∙ append_assoc so_far (p.0.0 ∷ []) r.items;
          policy = IsPolicy.more (item_exact.known.plain p.0.0 w.front w.next w.by) r.policy;
        }

-- ---- the first wrong token

pub record PolicyStop (m : ℕ) (so_far : List Item) (ls : List Lexeme) (e : PolicyFault) : Type 0 where
  pub front : List Lexeme
  pub here : Lexeme
  pub rest : List Lexeme
  pub all : ls ≡ front ++ here ∷ rest
  pub fault : e ≡ Syntax here.place
  pub always : (n c : ℕ) (other : List Lexeme) → m ≤ n → length (front ++ here ∷ other) ≤ c → items_up n c so_far (front ++ here ∷ other) ≡ Err e
  pub items : List Item
  pub back : List Lexeme
  pub policy : IsPolicy items (front ++ back)

-- in the next item
item_stops : (m : ℕ) (so_far : List Item) (l : Lexeme) (ls : List Lexeme) (e : PolicyFault) → Isnt EndOfText l → Stop IsItem m item (l ∷ ls) e → PolicyStop m so_far (l ∷ ls) e
item_stops m so_far l ls e i s = record {
  front = s.front;
  here = s.here;
  rest = s.rest;
  all = s.all;
  fault = s.fault;
  always = always;
  items = s.thing ∷ [];
  back = s.back;
  policy = subst (IsPolicy (s.thing ∷ [])) (append-nil (s.front ++ s.back)) (IsPolicy.more s.whole IsPolicy.none);
}
  where
    always : (n c : ℕ) (other : List Lexeme) → m ≤ n → length (s.front ++ s.here ∷ other) ≤ c → items_up n c so_far (s.front ++ s.here ∷ other) ≡ Err e
    always n zero other le short = absurd (omega (arith, short, length-append s.front (s.here ∷ other)))
    always n (suc c) other le short =
        items-item n c so_far s.front s.here other (subst (Isnt EndOfText) (head_is s.front s.here l s.rest ls s.all) i)
        ∙ ap (λ z. z >>= λ x. items_up n c (so_far ++ x.0 ∷ []) x.1) (s.always n other le)

-- in a later one
later_stops : (m : ℕ) (so_far : List Item) (x : Item) (ls mid : List Lexeme) (e : PolicyFault) → brackets.Fits m ls → WasRead ItemBefore ls x mid
    → PolicyStop m (so_far ++ x ∷ []) mid e → PolicyStop m so_far ls e
later_stops m so_far x ls mid e fits w s = record {
  front = w.front ++ s.front;
  here = s.here;
  rest = s.rest;
  all = all_on w s.front s.here s.rest s.all;
  fault = s.fault;
  always = always;
  items = x ∷ s.items;
  back = s.back;
  policy = subst (IsPolicy (x ∷ s.items)) (sym (append_assoc w.front s.front s.back)) (IsPolicy.more item_is s.policy);
}
  where
    item_is : IsItem x w.front
    item_is = item_exact.known.plain x w.front w.next w.by

    room : (n : ℕ) → m ≤ n → brackets.Fits n w.front
    room n le = brackets.more m n w.front le (front_fits brackets m w fits)

    always : (n c : ℕ) (other : List Lexeme) → m ≤ n → length ((w.front ++ s.front) ++ s.here ∷ other) ≤ c → items_up n c so_far ((w.front ++ s.front) ++ s.here ∷ other) ≡ Err e
    always n zero other le short = absurd (omega (arith, short, length-append (w.front ++ s.front) (s.here ∷ other)))
    always n (suc c) other le short =
        let b = item_head item_is s.front s.here in
        let shorter : length (s.front ++ s.here ∷ other) ≤ c = omega (arith, short, b.1, length-append (w.front ++ s.front) (s.here ∷ other), length-append s.front (s.here ∷ other)) in
        items-on n c so_far x w.front s.front s.here other (by_on w s.front s.here s.rest s.all) (room n le) b.0
        ∙ s.always n c other le shorter

pub policy_stops : (m c : ℕ) (so_far : List Item) (ls : List Lexeme) (e : PolicyFault) → length ls ≤ c → Ended ls → brackets.Fits m ls → items_up m c so_far ls ≡ Err e → PolicyStop m so_far ls e
policy_stops m c so_far [] e le ended fits h = absurd ended
policy_stops m zero so_far (l ∷ ls) e le ended fits h = absurd (omega arith)
policy_stops m (suc c) so_far (l ∷ ls) e le ended fits h =
    by (λ x mid short ended fits h. policy_stops m c (so_far ++ x ∷ []) mid e short ended fits h) (is_or_isnt EndOfText l)
  where
    rest_stops : Isnt EndOfText l
        → ((x : Item) (mid : List Lexeme) → length mid ≤ c → Ended mid → brackets.Fits m mid → items_up m c (so_far ++ x ∷ []) mid ≡ Err e → PolicyStop m (so_far ++ x ∷ []) mid e)
        → (read : Read Item) → item m (l ∷ ls) ≡ read → (read >>= λ x. items_up m c (so_far ++ x.0 ∷ []) x.1) ≡ Err e → PolicyStop m so_far (l ∷ ls) e
    rest_stops i on (Err f) is stuck = item_stops m so_far l ls e i (item_exact.stops m (l ∷ ls) e ended fits (is ∙ ap Err (err_same {A = List Item} f e stuck)))
    rest_stops i on (Ok p) is stuck =
        let w = item_exact.known.sound m (l ∷ ls) p.0 p.1 ended is in
        let b = item_begins (item_exact.known.plain p.0 w.front w.next w.by) in
        let short : length p.1 ≤ c = omega (arith, le, ap length w.all, ap length w.left, ap length b.2, length-append w.front (w.next ∷ w.rest)) in
        later_stops m so_far p.0 (l ∷ ls) p.1 e fits w (on p.0 p.1 short (ended_after w) (left_fits brackets m item_exact.known.balanced w fits) stuck)

    by : ((x : Item) (mid : List Lexeme) → length mid ≤ c → Ended mid → brackets.Fits m mid → items_up m c (so_far ++ x ∷ []) mid ≡ Err e → PolicyStop m (so_far ++ x ∷ []) mid e)
        → Is EndOfText l ⊎ Isnt EndOfText l → PolicyStop m so_far (l ∷ ls) e
    by on (inl i) = let done = items-end m c so_far l ls i in absurd cc
    by on (inr i) = rest_stops i on (item m (l ∷ ls)) refl (sym (items-item m c so_far [] l ls i) ∙ h)
