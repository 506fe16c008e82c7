-- What a router takes under announcements its lines take in the plain sense.
use Rattle.std.proofs.Common.{◌≡◌, ℕ, Bool, true, false, List, ◌∷◌, ◌++◌, Option, Some, None, refl, sym, ◌∙◌, inl, inr}
use Rattle.std.specs.Prelude.{◌==◌, if◌then◌else◌}
use Rattle.std.specs.List.{list_any}
use Rattle.std.specs.Option.{option_and_then}
use Rattle.std.proofs.lemmas.Bool.{cases_Bool, or_parts}
use Rattle.std.proofs.lemmas.List.Folds.{list_any-append}
use Rattle.list_law.proofs.Options.{cases_Option, none_or_some}
use Rattle.net_base.specs.declared.net.Site.{Site}
use Rattle.net_base.specs.declared.numbers.Tag.{Tag}
use Rattle.net_base.specs.Network.{PlainNet, asn_of, is_peer}
use Rattle.config_base.specs.declared.config.Session.{Session}
use Rattle.config_base.specs.Configs.{PlainConfig}
use Rattle.config_base.specs.Lines.{as_path, block_at, import_of, is_looped, line_by}
use Rattle.outcome_base.specs.Announcements.{FullRoute, Sent, is_ours, refuses, taken_under}
use Rattle.outcome_law.proofs.Inside.{any_tag, taken-none, taken-refused, taken-some}

-- the import line that applies
abbrev pub line_at : PlainNet → PlainConfig → ℕ → ℕ → ℕ → Tag → Option (Tag × ℕ)
line_at net config class v u tag = option_and_then (line_by net class u tag) (block_at net config v u)

-- what is taken is taken by a line
pub taken_line : (net : PlainNet) (config : PlainConfig) (class v u : ℕ) (m : Sent) (t : FullRoute) → taken_under net config class v u m ≡ Some t
    → (q : Tag × ℕ) × (refuses net v u (as_path net m.path ++ m.behind) ≡ false) × (line_at net config class v u m.tag ≡ Some q)
    × (t ≡ record { route = record { path = v ∷ m.path; tag = q.0; pref = q.1 }; behind = m.behind })
taken_line net config class v u m t h = elim (cases_Bool (refuses net v u (as_path net m.path ++ m.behind))) [
  | inl r ↦ absurd (none_or_some (taken_under net config class v u m) t (taken-refused net config class v u m r) h)
  | inr r ↦ elim (cases_Option (line_at net config class v u m.tag)) [
    | inl l ↦ absurd (none_or_some (taken_under net config class v u m) t (taken-none net config class v u m l) h)
    | inr l ↦
        let same : Some (record { route = record { path = v ∷ m.path; tag = l.0.0; pref = l.0.1 }; behind = m.behind }) ≡ Some t = sym (taken-some net config class v u m l.0 r l.1) ∙ h in
        let one : record { route = record { path = v ∷ m.path; tag = l.0.0; pref = l.0.1 }; behind = m.behind } ≡ t = cc in
        (l.0, r, l.1, sym one)
  ]
]

-- what isn't refused for its whole path isn't looped within the network
pub unlooped : (net : PlainNet) (v u : ℕ) (path behind : List ℕ) → refuses net v u (as_path net path ++ behind) ≡ false → is_looped net v u path ≡ false
unlooped net v u path behind h = by (is_peer net u) h
  where
    by : (b : Bool) → (if b then list_any (is_ours net) (as_path net path ++ behind) else list_any (λ n. n == asn_of net v) (as_path net path ++ behind)) ≡ false
        → (if b then list_any (λ n. list_any (λ (r : Site). r.asn == n) net.routers) (as_path net path) else list_any (λ n. n == asn_of net v) (as_path net path)) ≡ false
    by true h = (or_parts (list_any (is_ours net) (as_path net path)) (list_any (is_ours net) behind) (sym (list_any-append (is_ours net) (as_path net path) behind) ∙ h)).0
    by false h = (or_parts (list_any (λ n. n == asn_of net v) (as_path net path)) (list_any (λ n. n == asn_of net v) behind)
        (sym (list_any-append (λ n. n == asn_of net v) (as_path net path) behind) ∙ h)).0

-- and where a peer sent it, no router's number stands behind it
pub unlooped_behind : (net : PlainNet) (v u : ℕ) (path behind : List ℕ) → is_peer net u ≡ true → refuses net v u (as_path net path ++ behind) ≡ false → list_any (is_ours net) behind ≡ false
unlooped_behind net v u path behind peer h =
    let whole : list_any (is_ours net) (as_path net path ++ behind) ≡ false = (rw peer refl) ∙ h in
    (or_parts (list_any (is_ours net) (as_path net path)) (list_any (is_ours net) behind) (sym (list_any-append (is_ours net) (as_path net path) behind) ∙ whole)).1

-- and what a line takes is imported
pub imported : (net : PlainNet) (config : PlainConfig) (class v u : ℕ) (path : List ℕ) (tag : Tag) (q : Tag × ℕ) → is_looped net v u path ≡ false → line_at net config class v u tag ≡ Some q
    → import_of net config class v u path tag ≡ Some q
imported net config class v u path tag q t l = rw (t, l) refl

-- of what a peer sends, import lines ignore the tag
pub tag_ignored : (net : PlainNet) (config : PlainConfig) (class v u : ℕ) (s t : Tag) → is_peer net u ≡ true → line_at net config class v u s ≡ line_at net config class v u t
tag_ignored net config class v u s t peer = by (block_at net config v u)
  where
    by : (o : Option Session) → option_and_then (line_by net class u s) o ≡ option_and_then (line_by net class u t) o
    by None = refl
    by (Some b) = any_tag net class u peer s t b
