-- Packets arrive: the next router holds the same prefix, so the longest one there is no shorter, and for the same one less of the path is left.
use Rattle.std.proofs.Common.{◌≡◌, ◌∙◌, ℕ, zero, suc, ◌≤◌, ◌<◌, ◌+◌, ◌-◌, ◌*◌, ◌/◌, ◌%◌, ◌^◌, true, false, List, [], ◌∷◌, length, None, Some, Option, refl, ap, sym, inl, inr, arith, ◌⊎◌, le-leb, ltb-true, ltb-false, subst}
use Rattle.std.specs.Prelude.{not, nat_lt, ◌&&◌, ◌==◌}
use Rattle.std.specs.List.{list_any}
use Rattle.std.proofs.lemmas.Bool.{and_from, and_parts, cases_Bool, eqb-true, eq-eqb, false_from_ne_true, not_from_false, or_cases, true≢false}
use Rattle.std.proofs.lemmas.Nat.{div-add-mod', pow_pos}
use Rattle.std.proofs.Math.Nat.{div-mul-le_self, mul-mod_left, mul-div_cancel}
use Rattle.list_law.proofs.Members.{IsIn-later}
use Rattle.list_law.proofs.Options.{cases_Option, none_or_some}
use Rattle.net_base.specs.Network.{PlainNet, IsNet, is_peer, is_router}
use Rattle.net_base.specs.Prefixes.{PlainPrefix, IsPrefix}
use Rattle.net_base.proofs.Links.{linked_known}
use Rattle.net_base.proofs.RoutersAndPeers.{peer_no_router, router_or_peer}
use Rattle.policy_base.specs.Policies.{PlainPolicy}
use Rattle.policy_base.specs.Governing.{is_origin}
use Rattle.policy_base.specs.Walks.{is_loop_free}
use Rattle.config_base.specs.declared.route.Route.{Route}
use Rattle.config_base.specs.Configs.{PlainConfig}
use Rattle.outcome_base.specs.Outcomes.{Failures, is_live, is_silent, route_at}
use Rattle.evidence_law.proofs.Hops.{begins, own_path, passed_on}
use Rattle.outcome_law.specs.Longest.{Arrives, AreStable, GoesAlong, IsLongest, NoneIsLonger, Outcomes, PacketsArrive, covers}

-- ---- prefixes that cover an address

-- the one of a length
abbrev cut_to : ℕ → ℕ → PlainPrefix
cut_to a k = record { bits = a / 2 ^ (32 - k) * 2 ^ (32 - k); len = k }

is_cut : (p : PlainPrefix) (a : ℕ) → IsPrefix p → covers p a ≡ true → p ≡ cut_to a p.len
is_cut p a rules over =
    let same : a / 2 ^ (32 - p.len) ≡ p.bits / 2 ^ (32 - p.len) = eqb-true _ _ (and_parts _ _ over).1 in
    let whole : p.bits / 2 ^ (32 - p.len) * 2 ^ (32 - p.len) + p.bits % 2 ^ (32 - p.len) ≡ p.bits = div-add-mod' p.bits (2 ^ (32 - p.len)) in
    let bits : p.bits ≡ a / 2 ^ (32 - p.len) * 2 ^ (32 - p.len) =
    sym whole ∙ ap (λ n. p.bits / 2 ^ (32 - p.len) * 2 ^ (32 - p.len) + n) rules.clean ∙ plus_zero _ ∙ ap (λ n. n * 2 ^ (32 - p.len)) (sym same) in
    λ i. record { bits = bits i; len = p.len }
  where
    plus_zero : (n : ℕ) → n + 0 ≡ n
    plus_zero n = omega arith

-- so two of one length are one
one_cut : (p q : PlainPrefix) (a : ℕ) → IsPrefix p → IsPrefix q → covers p a ≡ true → covers q a ≡ true → p.len ≡ q.len → p ≡ q
one_cut p q a rules other over also same = is_cut p a rules over ∙ ap (cut_to a) same ∙ sym (is_cut q a other also)

lawful_cut : (a j : ℕ) → a < 2 ^ 32 → j ≤ 32 → IsPrefix (cut_to a j)
lawful_cut a j small within = record {
  wide = let low : a / 2 ^ (32 - j) * 2 ^ (32 - j) ≤ a = div-mul-le_self a (2 ^ (32 - j)) in omega (arith, low, small);
  within = within;
  clean = mul-mod_left (a / 2 ^ (32 - j)) (2 ^ (32 - j));
}

covering_cut : (a j : ℕ) → j ≤ 32 → covers (cut_to a j) a ≡ true
covering_cut a j within = and_from _ _ (le-leb _ _ within) (eq-eqb _ _ (sym (mul-div_cancel (a / 2 ^ (32 - j)) (pow_pos (32 - j)))))

-- ---- the longest one for which a router holds a route

last_or_before : (k i : ℕ) → i ≤ suc k → (i ≤ k) ⊎ (i ≡ suc k)
last_or_before k i le = elim (cases_Bool (nat_lt k i)) [
  | inl t ↦ let below : k < i = ltb-true k i t in inr (omega (arith, below, le))
  | inr f ↦ let above : i ≤ k = ltb-false k i f in inl above
]

module _ (os : Outcomes) (a z : ℕ) where
  abbrev at_cut : ℕ → Option Route
  at_cut i = route_at (os (cut_to a i)) z

  record IsFound (k : ℕ) : Type 0 where
    len : ℕ
    route : Route
    within : len ≤ k
    at : at_cut len ≡ Some route
    most : (i : ℕ) (g : Route) → i ≤ k → at_cut i ≡ Some g → i ≤ len

  -- it is found up to a length, or none is held up to there
  search_to : (k : ℕ) → IsFound k ⊎ ((i : ℕ) → i ≤ k → at_cut i ≡ None)
  search_to zero = elim (cases_Option (at_cut 0)) [
    | inl none ↦ inr (λ i le. let e : 0 ≡ i = omega (arith, le) in subst (λ j. at_cut j ≡ None) e none)
    | inr some ↦ inl (record { len = 0; route = some.0; within = omega arith; at = some.1; most = λ i g le h. le })
  ]
  search_to (suc k) = elim (cases_Option (at_cut (suc k))) [
    | inr some ↦ inl (record { len = suc k; route = some.0; within = omega arith; at = some.1; most = λ i g le h. le })
    | inl none ↦ elim (search_to k) [
      | inl x ↦ inl (record {
        len = x.len;
        route = x.route;
        within = let w : x.len ≤ k = x.within in omega (arith, w);
        at = x.at;
        most = λ i g le h. elim (last_or_before k i le) [
          | inl lower ↦ x.most i g lower h
          | inr top ↦ absurd (none_or_some (at_cut (suc k)) g none (subst (λ j. at_cut j ≡ Some g) top h))
        ];
      })
      | inr never ↦ inr (λ i le. elim (last_or_before k i le) [
        | inl lower ↦ never i lower
        | inr top ↦ subst (λ j. at_cut j ≡ None) (sym top) none
      ])
    ]
  ]

  record HasLongest (p : PlainPrefix) : Type 0 where
    prefix : PlainPrefix
    path : List ℕ
    is : IsLongest os a z prefix path
    longer : p.len ≤ prefix.len

  -- where a prefix is held that covers the address there is a longest one
  longest_at : a < 2 ^ 32 → (p : PlainPrefix) (h : Route) → IsPrefix p → covers p a ≡ true → route_at (os p) z ≡ Some h → HasLongest p
  longest_at small p h rules over at = elim (search_to 32) [
    | inl x ↦ record {
      prefix = cut_to a x.len;
      path = x.route.path;
      is = record {
        prefix = lawful_cut a x.len small x.within;
        covering = covering_cut a x.len x.within;
        held = (x.route, x.at, refl);
        most = λ q g lawful covering holds. x.most q.len g lawful.within (subst (λ (c : PlainPrefix). route_at (os c) z ≡ Some g) (is_cut q a lawful covering) holds);
      };
      longer = x.most p.len h rules.within (subst (λ (c : PlainPrefix). route_at (os c) z ≡ Some h) (is_cut p a rules over) at);
    }
    | inr never ↦ absurd (none_or_some (at_cut p.len) h (never p.len rules.within) (subst (λ (c : PlainPrefix). route_at (os c) z ≡ Some h) (is_cut p a rules over) at))
  ]

  one_route : (g h : Route) → Some g ≡ Some h → g ≡ h
  one_route g h e = cc

  -- and only one
  one_longest : (p q : PlainPrefix) (path other : List ℕ) → IsLongest os a z p path → IsLongest os a z q other → (p ≡ q) × (path ≡ other)
  one_longest p q path other x y =
      let up = x.most q y.held.0 y.prefix y.covering y.held.1 in
      let down = y.most p x.held.0 x.prefix x.covering x.held.1 in
      let same : p ≡ q = one_cut p q a x.prefix y.prefix x.covering y.covering (omega (arith, up, down)) in
      let route = one_route x.held.0 y.held.0 (sym x.held.1 ∙ ap (λ (c : PlainPrefix). route_at (os c) z) same ∙ y.held.1) in
      (same, sym x.held.2 ∙ ap (λ (h : Route). h.path) route ∙ y.held.2)

-- the other is longer, or the same and less of the path is left
abbrev IsAhead : PlainPrefix → List ℕ → PlainPrefix → List ℕ → Type 0
IsAhead p path q later = (p.len < q.len) ⊎ ((p.len ≡ q.len) × (suc (length later) ≤ length path))

ahead_of_ahead : (p q t : PlainPrefix) (path later last : List ℕ) → IsAhead p path q later → IsAhead q later t last → IsAhead p path t last
ahead_of_ahead p q t path later last (inl a) (inl b) = inl (omega (arith, a, b))
ahead_of_ahead p q t path later last (inl a) (inr b) = inl (omega (arith, a, b.0))
ahead_of_ahead p q t path later last (inr a) (inl b) = inl (omega (arith, a.0, b))
ahead_of_ahead p q t path later last (inr a) (inr b) = inr (omega (arith, a.0, b.0), omega (arith, a.1, b.1))

never_ahead : (p q : PlainPrefix) (path later : List ℕ) → p ≡ q → path ≡ later → IsAhead p path q later → ⊥
never_ahead p q path later same one (inl a) = let len : p.len ≡ q.len = ap (λ (c : PlainPrefix). c.len) same in omega (arith, len, a)
never_ahead p q path later same one (inr a) = let long : length path ≡ length later = ap length one in omega (arith, long, a.1)

tail_is : (x y : ℕ) (xs ys : List ℕ) → x ∷ xs ≡ y ∷ ys → xs ≡ ys
tail_is x y xs ys h = cc

head_is : (x y : ℕ) (xs ys : List ℕ) → x ∷ xs ≡ y ∷ ys → x ≡ y
head_is x y xs ys h = cc

not_alone : (r x y : ℕ) (ys : List ℕ) → r ∷ [] ≡ x ∷ y ∷ ys → ⊥
not_alone r x y ys h = cc

module _ (net : PlainNet) (policy : PlainPolicy) (config : PlainConfig) (fs : PlainPrefix → Failures) (os : Outcomes) (a : ℕ) (rules : IsNet net)
    (stable : AreStable net policy config fs os) (small : a < 2 ^ 32) where
  abbrev Trail : ℕ → List ℕ → Type 0
  Trail r trail = Arrives net policy fs os a r trail

  -- an origin's path is itself alone
  own_alone : (r : ℕ) (p : PlainPrefix) (path : List ℕ) → is_router net r ≡ true → is_origin net policy p r ≡ true → IsLongest os a r p path → path ≡ r ∷ []
  own_alone r p path router own is = sym is.held.2 ∙ own_path net policy config (fs p) p (os p) rules (stable p is.prefix).1 r is.held.0 router own is.held.1

  -- ---- one hop

  -- over a session to a peer that originates the prefix, and nothing is left
  record GoesOut (r : ℕ) (p : PlainPrefix) (path : List ℕ) : Type 0 where
    peer : ℕ
    is : path ≡ r ∷ peer ∷ []
    live : is_live net (fs p) r peer ≡ true
    at_peer : (is_peer net peer && is_origin net policy p peer && not (is_silent (fs p) r peer)) ≡ true

  -- to a router that holds the rest of the path
  record GoesOn (r : ℕ) (p : PlainPrefix) (path : List ℕ) : Type 0 where
    next : ℕ
    rest : List ℕ
    is : path ≡ r ∷ next ∷ rest
    live : is_live net (fs p) r next ≡ true
    router : is_router net next ≡ true
    held : (g : Route) × (route_at (os p) next ≡ Some g) × (g.path ≡ next ∷ rest)

  hop : (r : ℕ) (p : PlainPrefix) (path : List ℕ) → is_router net r ≡ true → IsLongest os a r p path → (is_origin net policy p r ≡ true) ⊎ GoesOut r p path ⊎ GoesOn r p path
  hop r p path router is = elim (cases_Bool (is_origin net policy p r)) [
    | inl own ↦ inl own
    | inr other ↦
        let x = passed_on net policy config (fs p) p (os p) rules (stable p is.prefix).1 r is.held.0 (and_from _ _ router (not_from_false _ other)) is.held.1 in
        let whole : path ≡ r ∷ x.next ∷ x.rest = sym is.held.2 ∙ x.begins in
        elim (cases_Bool (is_peer net x.next)) [
          | inl peer ↦
              let y = x.peer peer in
              let parts = and_parts (is_origin net policy p x.next) (not (is_silent (fs p) r x.next)) y.0 in
              inr (inl (record { peer = x.next; is = whole ∙ ap (λ t. r ∷ x.next ∷ t) y.1; live = x.live; at_peer = and_from _ _ (and_from _ _ peer parts.0) parts.1 }))
          | inr off ↦
              let goes = router_or_peer net x.next (linked_known net r x.next rules (and_parts _ _ (and_parts _ _ (and_parts _ _ x.live).0).0).0).1 off in
              inr (inr (record { next = x.next; rest = x.rest; is = whole; live = x.live; router = goes; held = x.router goes }))
        ]
  ]

  -- the path of what is the longest, read as it is
  read_as : (r : ℕ) (p : PlainPrefix) (path other : List ℕ) → path ≡ other → IsLongest os a r p path → IsLongest os a r p other
  read_as r p path other same is = record { prefix = is.prefix; covering = is.covering; held = (is.held.0, is.held.1, is.held.2 ∙ same); most = is.most }

  -- what is the longest at the next router is ahead
  record Next (r : ℕ) (p : PlainPrefix) (path : List ℕ) (z : ℕ) : Type 0 where
    prefix : PlainPrefix
    later : List ℕ
    there : IsLongest os a z prefix later
    ahead : IsAhead p path prefix later

  next_of : (r : ℕ) (p : PlainPrefix) (path : List ℕ) → IsLongest os a r p path → (x : GoesOn r p path) → Next r p path x.next
  next_of r p path is x =
      let far = longest_at os a x.next small p x.held.0 is.prefix is.covering x.held.1 in
      record {
        prefix = far.prefix;
        later = far.path;
        there = far.is;
        ahead = elim (cases_Bool (nat_lt p.len far.prefix.len)) [
          | inl t ↦ inl (ltb-true _ _ t)
          | inr t ↦
              let low : far.prefix.len ≤ p.len = ltb-false _ _ t in
              let high : p.len ≤ far.prefix.len = far.longer in
              let even : p.len ≡ far.prefix.len = omega (arith, low, high) in
              let one : p ≡ far.prefix = one_cut p far.prefix a is.prefix far.is.prefix is.covering far.is.covering even in
              let same = one_route os a x.next x.held.0 far.is.held.0 (sym x.held.1 ∙ ap (λ (c : PlainPrefix). route_at (os c) x.next) one ∙ far.is.held.1) in
              let rest : x.next ∷ x.rest ≡ far.path = sym x.held.2 ∙ ap (λ (h : Route). h.path) same ∙ far.is.held.2 in
              let long : length path ≡ suc (length far.path) = ap length x.is ∙ ap (λ t. suc (length t)) rest in
              inr (even, omega (arith, long))
        ];
      }

  -- ---- a whole way

  -- the places behind r: at each router of them what is the longest is ahead
  record Way (r : ℕ) (p : PlainPrefix) (path : List ℕ) : Type 0 where
    after : List ℕ
    arrives : Trail r (r ∷ after)
    ahead : (u : ℕ) → list_any (λ k. k == u) after ≡ true → is_router net u ≡ true → (q : PlainPrefix) × (later : List ℕ) × IsLongest os a u q later × IsAhead p path q later
    free : is_loop_free (r ∷ after) ≡ true

  ends_here : (r : ℕ) (p : PlainPrefix) (path : List ℕ) → IsLongest os a r p path → is_origin net policy p r ≡ true → Way r p path
  ends_here r p path is own = record { after = []; arrives = Arrives.here is own; ahead = λ u there router. absurd (true≢false (sym there)); free = refl }

  ends_out : (r : ℕ) (p : PlainPrefix) (path : List ℕ) → is_router net r ≡ true → IsLongest os a r p path → GoesOut r p path → Way r p path
  ends_out r p path router is x = record {
    after = x.peer ∷ [];
    arrives = Arrives.out (read_as r p path (r ∷ x.peer ∷ []) x.is is) x.live x.at_peer;
    ahead = λ u there at. absurd (no_router u (alone x.peer u there) at);
    free = and_from _ _ (not_from_false _ (false_from_ne_true _ (λ h. no_router r (alone x.peer r h) router))) refl;
  }
    where
      alone : (z u : ℕ) → list_any (λ k. k == u) (z ∷ []) ≡ true → z ≡ u
      alone z u h = elim (or_cases (z == u) false h) [
        | inl t ↦ eqb-true z u t
        | inr t ↦ absurd (true≢false (sym t))
      ]

      no_router : (u : ℕ) → x.peer ≡ u → is_router net u ≡ true → ⊥
      no_router u same at =
          let peer = (and_parts _ _ (and_parts _ _ x.at_peer).0).0 in
          true≢false (sym at ∙ ap (is_router net) (sym same) ∙ peer_no_router net x.peer peer)

  goes_on : (r : ℕ) (p : PlainPrefix) (path : List ℕ) → is_router net r ≡ true → IsLongest os a r p path → (x : GoesOn r p path) (y : Next r p path x.next)
      → Way x.next y.prefix y.later → Way r p path
  goes_on r p path router is x y w = record {
    after = x.next ∷ w.after;
    arrives = Arrives.on (read_as r p path (r ∷ x.next ∷ x.rest) x.is is) x.live x.router w.arrives;
    ahead = ahead;
    free = and_from _ _ (not_from_false _ (false_from_ne_true _ (λ h.
        let f = ahead r h router in
        let same = one_longest os a r p f.0 path f.1 is f.2 in
        never_ahead p f.0 path f.1 same.0 same.1 f.3))) w.free;
  }
    where
      ahead : (u : ℕ) → list_any (λ k. k == u) (x.next ∷ w.after) ≡ true → is_router net u ≡ true → (q : PlainPrefix) × (later : List ℕ) × IsLongest os a u q later × IsAhead p path q later
      ahead u there at = elim (or_cases (x.next == u) (list_any (λ k. k == u) w.after) there) [
        | inl t ↦ (y.prefix, y.later, subst (λ l. IsLongest os a l y.prefix y.later) (eqb-true x.next u t) y.there, y.ahead)
        | inr t ↦ (let f = w.ahead u t at in (f.0, f.1, f.2, ahead_of_ahead p y.prefix f.0 path y.later f.1 y.ahead f.3))
      ]

  -- m is how much longer prefixes may get, and n how much of the path is left
  walk : (m : ℕ) → ((z : ℕ) (q : PlainPrefix) (path : List ℕ) → is_router net z ≡ true → IsLongest os a z q path → 33 ≤ m + q.len → Way z q path)
      → (n : ℕ) (r : ℕ) (p : PlainPrefix) (path : List ℕ) → is_router net r ≡ true → IsLongest os a r p path → 33 ≤ suc m + p.len → length path ≤ n → Way r p path
  walk m again zero r p path router is big short = elim (hop r p path router is) [
    | inl own ↦ ends_here r p path is own
    | inr (inl x) ↦ ends_out r p path router is x
    | inr (inr x) ↦ let long : length path ≡ suc (suc (length x.rest)) = ap length x.is in absurd (omega (arith, long, short))
  ]
  walk m again (suc k) r p path router is big short = elim (hop r p path router is) [
    | inl own ↦ ends_here r p path is own
    | inr (inl x) ↦ ends_out r p path router is x
    | inr (inr x) ↦
        let y = next_of r p path is x in
        goes_on r p path router is x y (elim y.ahead [
          | inl longer ↦ again x.next y.prefix y.later x.router y.there (omega (arith, big, longer))
          | inr same ↦ walk m again k x.next y.prefix y.later x.router y.there (omega (arith, big, same.0)) (omega (arith, same.1, short))
        ])
  ]

  arrive : (m : ℕ) (r : ℕ) (p : PlainPrefix) (path : List ℕ) → is_router net r ≡ true → IsLongest os a r p path → 33 ≤ m + p.len → Way r p path
  arrive zero r p path router is big = let within : p.len ≤ 32 = is.prefix.within in absurd (omega (arith, big, within))
  arrive (suc m) r p path router is big = walk m (arrive m) (length path) r p path router is big (omega arith)

  -- ---- it is the only one

  Shape : ℕ → List ℕ → Type 0
  Shape r trail =
      ((p : PlainPrefix) × (path : List ℕ) × IsLongest os a r p path × (is_origin net policy p r ≡ true) × (trail ≡ r ∷ []))
      ⊎ ((p : PlainPrefix) × (z : ℕ) × IsLongest os a r p (r ∷ z ∷ []) × (is_peer net z ≡ true) × (trail ≡ r ∷ z ∷ []))
      ⊎ ((p : PlainPrefix) × (z : ℕ) × (rest : List ℕ) × (later : List ℕ) × IsLongest os a r p (r ∷ z ∷ rest) × (is_router net z ≡ true) × Trail z later × (trail ≡ r ∷ later))

  shape : {r : ℕ} {trail : List ℕ} → Trail r trail → Shape r trail
  unfolding Shape
  shape (Arrives.here {p = p} {path = path} is own) = inl (p, path, is, own, refl)
  shape (Arrives.out {peer = z} {p = p} is live at) = inr (inl (p, z, is, (and_parts _ _ (and_parts _ _ at).0).0, refl))
  shape (Arrives.on {z = z} {p = p} {rest = rest} {trail = later} is live router more) = inr (inr (p, z, rest, later, is, router, more, refl))

  -- an origin sends nothing on
  own_stays : (r z : ℕ) (p q : PlainPrefix) (path rest : List ℕ) → is_router net r ≡ true → IsLongest os a r p path → is_origin net policy p r ≡ true → IsLongest os a r q (r ∷ z ∷ rest) → ⊥
  own_stays r z p q path rest router is own on = not_alone r r z rest (sym (own_alone r p path router own is) ∙ (one_longest os a r p q path (r ∷ z ∷ rest) is on).1)

  -- it is sent to one place
  one_hop : (r y z : ℕ) (p q : PlainPrefix) (xs ys : List ℕ) → IsLongest os a r p (r ∷ y ∷ xs) → IsLongest os a r q (r ∷ z ∷ ys) → y ≡ z
  one_hop r y z p q xs ys is on = head_is y z xs ys (tail_is r r (y ∷ xs) (z ∷ ys) (one_longest os a r p q (r ∷ y ∷ xs) (r ∷ z ∷ ys) is on).1)

  apart : (y z : ℕ) → y ≡ z → is_peer net y ≡ true → is_router net z ≡ true → ⊥
  apart y z same peer router = true≢false (sym router ∙ ap (is_router net) (sym same) ∙ peer_no_router net y peer)

  one_way : {r : ℕ} {trail : List ℕ} → Trail r trail → is_router net r ≡ true → (other : List ℕ) → Trail r other → other ≡ trail
  unfolding Shape
  one_way (Arrives.here {r = r} {p = p} {path = path} is own) router other h = elim (shape h) [
    | inl s ↦ s.4
    | inr (inl s) ↦ absurd (own_stays r s.1 p s.0 path [] router is own s.2)
    | inr (inr s) ↦ absurd (own_stays r s.1 p s.0 path s.2 router is own s.4)
  ]
  one_way (Arrives.out {r = r} {peer = y} {p = p} is live at) router other h = elim (shape h) [
    | inl s ↦ absurd (own_stays r y s.0 p s.1 [] router s.2 s.3 is)
    | inr (inl s) ↦ s.4 ∙ ap (λ l. r ∷ l ∷ []) (sym (one_hop r y s.1 p s.0 [] [] is s.2))
    | inr (inr s) ↦ absurd (apart y s.1 (one_hop r y s.1 p s.0 [] s.2 is s.4) (and_parts _ _ (and_parts _ _ at).0).0 s.5)
  ]
  one_way (Arrives.on {r = r} {z = y} {p = p} {rest = rest} is live goes more) router other h = elim (shape h) [
    | inl s ↦ absurd (own_stays r y s.0 p s.1 rest router s.2 s.3 is)
    | inr (inl s) ↦ absurd (apart s.1 y (sym (one_hop r y s.1 p s.0 rest [] is s.2)) s.3 goes)
    | inr (inr s) ↦ s.7 ∙ ap (λ ls. r ∷ ls) (one_way more goes s.3 (subst (λ l. Trail l s.3) (sym (one_hop r y s.1 p s.0 rest s.2 is s.4)) s.6))
  ]

  -- ---- where nothing on the path is longer

  module _ (p : PlainPrefix) where
    along : (tail : List ℕ) (r : ℕ) → is_router net r ≡ true → IsLongest os a r p (r ∷ tail) → NoneIsLonger net os a p (r ∷ tail) → Trail r (r ∷ tail)
    along [] r router is none = elim (hop r p (r ∷ []) router is) [
      | inl own ↦ Arrives.here is own
      | inr (inl x) ↦ absurd (not_alone r r x.peer [] x.is)
      | inr (inr x) ↦ absurd (not_alone r r x.next x.rest x.is)
    ]
    along (y ∷ tail) r router is none = elim (hop r p (r ∷ y ∷ tail) router is) [
      | inl own ↦ absurd (not_alone r r y tail (sym (own_alone r p (r ∷ y ∷ tail) router own is)))
      | inr (inl x) ↦
          let out : y ∷ tail ≡ x.peer ∷ [] = tail_is r r (y ∷ tail) (x.peer ∷ []) x.is in
          subst (λ ls. Trail r (r ∷ ls)) (sym out) (Arrives.out (read_as r p (r ∷ y ∷ tail) (r ∷ x.peer ∷ []) x.is is) x.live x.at_peer)
      | inr (inr x) ↦
          let same : y ∷ tail ≡ x.next ∷ x.rest = tail_is r r (y ∷ tail) (x.next ∷ x.rest) x.is in
          let next : x.next ≡ y = sym (head_is y x.next tail x.rest same) in
          let goes : is_router net y ≡ true = subst (λ l. is_router net l ≡ true) next x.router in
          let held : (g : Route) × (route_at (os p) y ≡ Some g) × (g.path ≡ y ∷ tail) =
          (x.held.0, subst (λ l. route_at (os p) l ≡ Some x.held.0) next x.held.1, x.held.2 ∙ sym same) in
          let there : IsLongest os a y p (y ∷ tail) = record { prefix = is.prefix; covering = is.covering; held = held; most = λ q h lawful covering at. none y q h (1, refl) goes lawful covering at } in
          Arrives.on is (subst (λ l. is_live net (fs p) r l ≡ true) next x.live) goes (along tail y goes there (λ u q h on. none u q h (IsIn-later r u (y ∷ tail) on)))
    ]

  -- ---- both

  goes : (r : ℕ) (p : PlainPrefix) (path : List ℕ) → is_router net r ≡ true → IsLongest os a r p path → (trail : List ℕ) × GoesAlong net policy fs os a r trail
  goes r p path router is =
      let w = arrive 33 r p path router is (omega arith) in
      (r ∷ w.after, record { arrives = w.arrives; only = λ other h. one_way w.arrives router other h; free = w.free })

  exactly : (r : ℕ) (p : PlainPrefix) (path : List ℕ) → is_router net r ≡ true → IsLongest os a r p path → NoneIsLonger net os a p path → GoesAlong net policy fs os a r path
  exactly r p path router is none =
      let w = goes r p path router is in
      let b = begins net policy config (fs p) p (os p) rules (stable p is.prefix).1 r is.held.0 router is.held.1 in
      let whole : path ≡ r ∷ b.0 = sym is.held.2 ∙ b.1 in
      let way : Trail r (r ∷ b.0) = along p b.0 r router (read_as r p path (r ∷ b.0) whole is) (subst (NoneIsLonger net os a p) whole none) in
      let same : w.0 ≡ path = sym (w.1.only (r ∷ b.0) way) ∙ sym whole in
      subst (GoesAlong net policy fs os a r) same w.1

pub packets_arrive : PacketsArrive
packets_arrive net policy config rules fs os a stable small r p path router is =
    (goes net policy config fs os a rules stable small r p path router is, λ none. exactly net policy config fs os a rules stable small r p path router is none)
