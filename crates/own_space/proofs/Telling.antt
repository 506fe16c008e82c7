-- What the parts tell.
use Rattle.std.proofs.Common.{◌≡◌, ℕ, ◌+◌, Bool, true, false, List, [], ◌∷◌, ◌++◌, Option, Some, None, inl, inr, refl, sym, ap, subst, ◌∙◌}
use Rattle.std.specs.Prelude.{if◌then◌else◌}
use Rattle.std.specs.List.{flat_map}
use Rattle.std.proofs.lemmas.Bool.{cases_Bool, true≢false}
use Rattle.list_law.specs.Members.{IsIn}
use Rattle.list_law.proofs.Members.{IsIn-append_cases, IsIn-cons_cases, IsIn-flat_map_parts, IsIn-later, IsIn-nil, list_any-from_IsIn}
use Rattle.net_base.specs.Prefixes.{PlainPrefix, PlainPattern, IsPattern, IsPrefix, contains}
use Rattle.policy_base.specs.declared.policy.Origin.{Origin}
use Rattle.policy_base.specs.Governing.{governing_from, some_contains}
use Rattle.policy_base.specs.Policies.{PlainStatement}
use Rattle.lint_cover.specs.Covered.{covered}
use Rattle.lint_cover.proofs.Decision.{covered-IsCovered}
use Rattle.own_space.specs.declared.open_case.OpenCase.{OpenCase}
use Rattle.own_space.specs.declared.open_part.OpenPart.{OpenPart}
use Rattle.own_space.specs.Laws.{IsForPeers, IsOpen, PartsAreWhatIsOpen, PartsTellSomething, TellsOf}
use Rattle.own_space.specs.Open.{number_of, open_parts, origin_part, part_of, parts_from, pattern_parts, statement_parts}
use Rattle.own_space.specs.Spaces.{originated, outer_of, part_in}
use Rattle.own_space.proofs.Inside.{IsPart, outer_around, outer_in, part_is}
use Rattle.own_space.proofs.Originals.{none_alone, none_of_each, not_alone}
use Rattle.own_space.proofs.Whole.{AreLawful, some_part}

-- ---- an open prefix has a part

pub parts_are_what_is_open : PartsAreWhatIsOpen
parts_are_what_is_open net policy kept cases p mine own = (sound, whole)
  where
    sound : (part : OpenPart) × IsIn (open_parts policy cases) part × TellsOf policy cases part p → IsOpen policy cases p
    sound x = let g = x.2.governed in (g.0, x.0.number, g.1, g.2)

    whole : IsOpen policy cases p → (part : OpenPart) × IsIn (open_parts policy cases) part × TellsOf policy cases part p
    whole taken =
        let o = outer_around policy.origins p own in
        let base = kept.prefixes o.0 (outer_in policy.origins o.0 o.1) in
        let none = not_alone policy.origins p (λ q at. kept.prefixes q at) mine.prefix mine.not_originated in
        let x = some_part (outer_of policy.origins) cases p mine.prefix o.0 o.1 base o.2 (originated policy) 1 taken.0 taken.1 policy.statements (λ s t at listed. kept.patterns s t at listed) none taken.2 taken.3 in
        let tells = x.2 in
        (x.0, x.1, record { inside = tells.inside; contained = tells.contained; governed = (taken.0, taken.2, taken.3 ∙ ap Some (sym tells.number)) })

-- ---- each part comes of a pattern, and isn't covered by those before it

module _ (outer : List Origin) (cases : List OpenCase) (bases : (o : Origin) → IsIn outer o → IsPrefix o.prefix) where
  -- the part of a pattern, where these stand before it
  pub record Comes (before : List PlainPattern) (n : ℕ) (t : PlainPattern) (part : OpenPart) : Type 0 where
    pub number : n ≡ part.number
    pub fresh : covered before part.pattern ≡ false
    pub is : IsPart part.within t part.pattern

  of_origin : (before : List PlainPattern) (n : ℕ) (t : PlainPattern) (o : Origin) (part : OpenPart) → IsPattern t → IsIn outer o → IsIn (origin_part before n t o) part → Comes before n t part
  of_origin before n t o part lawful listed at = by (part_in o.prefix t) refl at
    where
      by : (u : Option PlainPattern) → part_in o.prefix t ≡ u → IsIn (part_of before n o.prefix u) part → Comes before n t part
      by None is at = absurd (IsIn-nil part at)
      by (Some u) is at = by_cover (covered before u) refl at
        where
          made : OpenPart
          made = record { pattern = u; within = o.prefix; number = n }

          by_cover : (b : Bool) → covered before u ≡ b → IsIn (if b then [] else made ∷ []) part → Comes before n t part
          by_cover true e at = absurd (IsIn-nil part at)
          by_cover false e at = elim (IsIn-cons_cases made [] part at) [
            | inl same ↦ subst (Comes before n t) same (record { number = refl; fresh = e; is = part_is o.prefix t u (bases o listed) lawful is })
            | inr none ↦ absurd (IsIn-nil part none)
          ]

  of_pattern : (before : List PlainPattern) (m : Option ℕ) (t : PlainPattern) (part : OpenPart) → IsPattern t → IsIn (pattern_parts outer before m t) part → (n : ℕ) × (m ≡ Some n) × Comes before n t part
  of_pattern before None t part lawful at = absurd (IsIn-nil part at)
  of_pattern before (Some n) t part lawful at = by (covered before t) at
    where
      by : (b : Bool) → IsIn (if b then [] else flat_map (origin_part before n t) outer) part → (m : ℕ) × (Some n ≡ Some m) × Comes before m t part
      by true at = absurd (IsIn-nil part at)
      by false at =
          let o = IsIn-flat_map_parts (origin_part before n t) outer part at in
          (n, refl, of_origin before n t o.0 part lawful o.1 o.2)

  -- it's one of the statement's patterns, and what stands before it there doesn't matter less
  pub record ComesOf (before : List PlainPattern) (m : Option ℕ) (ts : List PlainPattern) (part : OpenPart) : Type 0 where
    pub ahead : List PlainPattern
    pub pattern : PlainPattern
    pub listed : IsIn ts pattern
    pub number : m ≡ Some part.number
    pub comes : Comes ahead part.number pattern part
    pub more : (p : PlainPrefix) → some_contains ahead p ≡ false → some_contains before p ≡ false

  of_statement : (before : List PlainPattern) (m : Option ℕ) (ts : List PlainPattern) (part : OpenPart) → ((t : PlainPattern) → IsIn ts t → IsPattern t)
      → IsIn (statement_parts outer before m ts) part → ComesOf before m ts part
  of_statement before m [] part lawful at = absurd (IsIn-nil part at)
  of_statement before m (t ∷ ts) part lawful at = elim (IsIn-append_cases (pattern_parts outer before m t) (statement_parts outer (before ++ t ∷ []) m ts) part at) [
    | inl first ↦
        let x = of_pattern before m t part (lawful t (0, refl)) first in
        record {
          ahead = before;
          pattern = t;
          listed = (0, refl);
          number = x.1 ∙ ap Some x.2.number;
          comes = subst (λ n. Comes before n t part) x.2.number x.2;
          more = λ p h. h;
        }
    | inr last ↦
        let x = of_statement (before ++ t ∷ []) m ts part (λ u there. lawful u (IsIn-later t u ts there)) last in
        record {
          ahead = x.ahead;
          pattern = x.pattern;
          listed = IsIn-later t x.pattern ts x.listed;
          number = x.number;
          comes = x.comes;
          more = λ p h. (none_of_each before (t ∷ []) p (x.more p h)).0;
        }
  ]

  -- a prefix of the pattern that stands in nothing before it is governed by its statement
  pub record ComesFrom (before : List PlainPattern) (k : ℕ) (ss : List PlainStatement) (part : OpenPart) : Type 0 where
    pub ahead : List PlainPattern
    pub pattern : PlainPattern
    pub comes : Comes ahead part.number pattern part
    pub more : (p : PlainPrefix) → some_contains ahead p ≡ false → some_contains before p ≡ false
    pub governs : (p : PlainPrefix) → some_contains ahead p ≡ false → contains pattern p ≡ true → (j : ℕ) × (governing_from ss p k ≡ Some j) × (number_of cases j ≡ Some part.number)

  pub of_statements : (before : List PlainPattern) (k : ℕ) (ss : List PlainStatement) (part : OpenPart) → AreLawful ss
      → IsIn (parts_from outer cases before k ss) part → ComesFrom before k ss part
  of_statements before k [] part lawful at = absurd (IsIn-nil part at)
  of_statements before k (s ∷ ss) part lawful at =
      elim (IsIn-append_cases (statement_parts outer before (number_of cases k) s.patterns) (parts_from outer cases (before ++ s.patterns) (k + 1) ss) part at) [
        | inl first ↦
            let x = of_statement before (number_of cases k) s.patterns part (λ t there. lawful s t (0, refl) there) first in
            record {
              ahead = x.ahead;
              pattern = x.pattern;
              comes = x.comes;
              more = x.more;
              governs = λ p none here.
                  let some : some_contains s.patterns p ≡ true = list_any-from_IsIn (λ (t : PlainPattern). contains t p) s.patterns x.pattern x.listed here in
                  (k, rw some refl, x.number);
            }
        | inr last ↦
            let x = of_statements (before ++ s.patterns) (k + 1) ss part (λ r t there listed. lawful r t (IsIn-later s r ss there) listed) last in
            record {
              ahead = x.ahead;
              pattern = x.pattern;
              comes = x.comes;
              more = λ p h. (none_of_each before s.patterns p (x.more p h)).0;
              governs = λ p none here.
                  let g = x.governs p none here in
                  let not_here : some_contains s.patterns p ≡ false = (none_of_each before s.patterns p (x.more p none)).1 in
                  (g.0, rw not_here g.1, g.2);
            }
      ]

pub parts_tell_something : PartsTellSomething
parts_tell_something net policy kept cases part at untold =
    true≢false (sym ((covered-IsCovered x.ahead part.pattern x.comes.is.lawful).1 all) ∙ x.comes.fresh)
  where
    x : ComesFrom (outer_of policy.origins) cases (λ o listed. kept.prefixes o (outer_in policy.origins o listed)) (originated policy) 1 policy.statements part
    x = of_statements (outer_of policy.origins) cases (λ o listed. kept.prefixes o (outer_in policy.origins o listed)) (originated policy) 1 policy.statements part
        (λ s t at listed. kept.patterns s t at listed) at

    all : (p : PlainPrefix) → IsPrefix p → contains part.pattern p ≡ true → some_contains x.ahead p ≡ true
    all p prefix here = elim (cases_Bool (some_contains x.ahead p)) [
      | inl some ↦ some
      | inr none ↦
          let mine : IsForPeers policy p = record { prefix = prefix; not_originated = none_alone policy.origins p (x.more p none) } in
          absurd
          (untold p mine
          (record {
            inside = x.comes.is.inside p prefix.within here;
            contained = here;
            governed = x.governs p none (x.comes.is.only p here);
          }))
    ]
