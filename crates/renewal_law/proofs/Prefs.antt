-- A preference that a line gives stands in the configuration.
use Rattle.std.proofs.Common.{◌≡◌, ℕ, List, Some, ap, ◌∙◌, subst}
use Rattle.std.specs.Prelude.{option_and_then}
use Rattle.std.specs.List.{find}
use Rattle.list_law.specs.Members.{IsIn}
use Rattle.list_law.proofs.Members.{IsIn-flat_map, IsIn-map}
use Rattle.list_law.proofs.Options.{option_and_then_parts, unless_parts, when_parts}
use Rattle.list_law.proofs.Tests.{find_parts}
use Rattle.net_base.specs.declared.numbers.Tag.{Tag}
use Rattle.net_base.specs.Network.{PlainNet, is_named, is_peer, is_router}
use Rattle.net_base.specs.Prefixes.{PlainPrefix}
use Rattle.config_base.specs.declared.config.RouterConfig.{RouterConfig}
use Rattle.config_base.specs.Configs.{PlainConfig}
use Rattle.config_base.specs.Lines.{block_at, class_of, import_of, is_looped, line_by, router_at}
use Rattle.evidence_law.proofs.Spelled.{imported_by, imports_tag}
use Rattle.rollout_base.specs.Lines.{takes}
use Rattle.rollout_mixtures.proofs.Idle.{either_way}
use Rattle.free_tags.specs.Taken.{pref_of_import, prefs_in, prefs_of_router, prefs_of_session}

pub taken_pref : (net : PlainNet) (config : PlainConfig) (p : PlainPrefix) (r u : ℕ) (path : List ℕ) (tag : Tag) (q : Tag × ℕ)
    → takes net config p r u path tag ≡ Some q → IsIn (prefs_in config) q.1
taken_pref net config p r u path tag q e =
    let c = option_and_then_parts (λ class. import_of net config class r u path tag) (class_of config p) q e in
    let line = option_and_then (line_by net c.0 u tag) (block_at net config r u) in
    let a = unless_parts (is_looped net r u path) line q c.2 in
    let i = imported_by net config c.0 r u tag q (either_way (is_peer net u) line ∙ a.1) in
    let s = option_and_then_parts _ (router_at net config r) i.0 i.2 in
    let w = when_parts (is_router net r) (find (λ (d : RouterConfig). is_named net d.name r) config.routers) s.0 s.1 in
    let router = find_parts (λ (d : RouterConfig). is_named net d.name r) config.routers s.0 w.1 in
    let block = find_parts _ s.0.sessions i.0 s.2 in
    let rule = find_parts (imports_tag net u c.0 tag) i.0.imports i.1 i.3 in
    let pref : i.1.pref ≡ q.1 = ap (λ (x : Tag × ℕ). x.1) i.4 in
    subst (IsIn (prefs_in config)) pref
    (IsIn-flat_map prefs_of_router config.routers s.0 i.1.pref (router.0, router.1)
    (IsIn-flat_map prefs_of_session s.0.sessions i.0 i.1.pref (block.0, block.1) (IsIn-map pref_of_import i.0.imports i.1 (rule.0, rule.1))))
