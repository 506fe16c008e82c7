-- The block that stands in a router's own place and has its name is the one that its name finds.
use Rattle.std.proofs.Common.{◌≡◌, ℕ, List, Option, Some, None, map, sym, ap, ◌∙◌, true, false}
use Rattle.std.specs.Prelude.{slice_get}
use Rattle.std.specs.List.{find, IsDistinct}
use Rattle.std.specs.Str.{bytes_eq}
use Rattle.std.specs.Option.{option_map_or}
use Rattle.std.proofs.lemmas.Bool.{false≢true}
use Rattle.std.proofs.lemmas.Slice.Eq.{bytes_eq-Decides}
use Rattle.list_law.proofs.Keys.{one_by_key}
use Rattle.list_law.proofs.Tests.{find_from, find_parts}
use Rattle.net_base.specs.declared.net.Site.{Site}
use Rattle.net_base.specs.Network.{PlainNet, is_named, site_of}
use Rattle.config_base.specs.declared.config.RouterConfig.{RouterConfig}

-- two names of one location are the same
one_name : (net : PlainNet) (l : ℕ) (a b : List ℕ) → is_named net a l ≡ true → is_named net b l ≡ true → bytes_eq a b ≡ true
one_name net l a b = by (site_of net l)
  where
    by : (o : Option Site) → option_map_or (λ (s : Site). bytes_eq s.name a) o false ≡ true → option_map_or (λ (s : Site). bytes_eq s.name b) o false ≡ true → bytes_eq a b ≡ true
    by None h k = absurd (false≢true h)
    by (Some s) h k = (bytes_eq-Decides a b).1 (sym ((bytes_eq-Decides s.name a).0 h) ∙ (bytes_eq-Decides s.name b).0 k)

pub named_in_place : (net : PlainNet) (r i : ℕ) (blocks : List RouterConfig) (c : RouterConfig) → IsDistinct bytes_eq (map (λ (b : RouterConfig). b.name) blocks)
    → slice_get blocks i ≡ Some c → is_named net c.name r ≡ true → find (λ (b : RouterConfig). is_named net b.name r) blocks ≡ Some c
named_in_place net r i blocks c apart at named =
    let p = λ (b : RouterConfig). is_named net b.name r in
    let first = find_from p blocks i c at named in
    let there = find_parts p blocks first.0 first.1 in
    let same = one_by_key bytes_eq (λ (b : RouterConfig). b.name) blocks first.0 c apart (there.0, there.1) (i, at)
    (one_name net r first.0.name c.name there.2 named) (one_name net r c.name first.0.name named there.2) in
    first.1 ∙ ap Some same
