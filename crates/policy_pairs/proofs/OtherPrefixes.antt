-- The prefixes that another policy doesn't originate, so far.
use Rattle.std.proofs.Common.{◌≡◌, ℕ, suc, ◌+◌, ◌<◌, List, [], ◌∷◌, ◌++◌, add-one, ap, append-nil, append_assoc, drop, get_or, length, sym, ◌∙◌, Option, Some, None}
use Rattle.std.proofs.Math.Seq.{drop-cons}
use Rattle.std.specs.Prelude.{filter, is_none, is_some, if◌then◌else◌}
use Rattle.net_base.specs.declared.loc.LocSet.{LocSet}
use Rattle.net_base.specs.Prefixes.{PlainPrefix}
use Rattle.policy_base.specs.declared.policy.Origin.{Origin}
use Rattle.policy_base.specs.Governing.{originated_at}
use Rattle.policy_pairs.specs.Pairs.{prefixes_of}

one_more : (found : Option LocSet) (q : PlainPrefix) (before rest : List PlainPrefix)
    → (before ++ (if is_some found then [] else q ∷ [])) ++ rest ≡ before ++ (if is_none found then q ∷ rest else rest)
one_more None q before rest = append_assoc before (q ∷ []) rest
one_more (Some at) q before rest = ap (λ (ps : List PlainPrefix). ps ++ rest) (append-nil before)

pub others_next : (origins items : List Origin) (i : ℕ) (o : Origin) (before more : List PlainPrefix) → i < length items → o ≡ get_or items i o
    → more ≡ before ++ (if is_some (originated_at origins o.prefix) then [] else o.prefix ∷ [])
    → more ++ filter (λ (p : PlainPrefix). is_none (originated_at origins p)) (prefixes_of (drop (i + 1) items))
    ≡ before ++ filter (λ (p : PlainPrefix). is_none (originated_at origins p)) (prefixes_of (drop i items))
others_next origins items i o before more within read grown =
    let rest : List PlainPrefix = filter (λ (p : PlainPrefix). is_none (originated_at origins p)) (prefixes_of (drop (i + 1) items)) in
    let dropped : drop i items ≡ o ∷ drop (i + 1) items =
    drop-cons items i o within ∙ ap (λ (q : Origin). q ∷ drop (suc i) items) (sym read) ∙ ap (λ n. o ∷ drop n items) (sym (add-one i)) in
    ap (λ (ps : List PlainPrefix). ps ++ rest) grown ∙ one_more (originated_at origins o.prefix) o.prefix before rest
    ∙ ap (λ (os : List Origin). before ++ filter (λ (p : PlainPrefix). is_none (originated_at origins p)) (prefixes_of os)) (sym dropped)
