-- The lines of a class are those of the steps of its graph.
use Rattle.std.proofs.Common.{◌≡◌, ℕ, Bool, true, false, [], Option, Some, None, refl, sym, ap, ◌∙◌, inl, inr}
use Rattle.std.specs.Prelude.{◌&&◌, ◌||◌, ◌==◌, is_some, if◌then◌else◌}
use Rattle.std.specs.List.{find, list_any}
use Rattle.std.proofs.lemmas.Bool.{cases_Bool, true≢false}
use Rattle.list_law.proofs.Options.{cases_Option}
use Rattle.net_base.specs.declared.numbers.Tag.{Tag}
use Rattle.net_base.specs.Network.{PlainNet, is_peer}
use Rattle.net_base.specs.Numbers.{no_tag}
use Rattle.net_base.specs.Prefixes.{PlainPrefix, same_prefix}
use Rattle.config_base.specs.declared.config.RouterConfig.{RouterConfig}
use Rattle.config_base.specs.declared.config.Session.{Session}
use Rattle.config_base.specs.declared.config.Import.{Import}
use Rattle.config_base.specs.declared.config.Export.{Export}
use Rattle.config_base.specs.declared.config.Origination.{Origination}
use Rattle.config_base.specs.Configs.{PlainConfig}
use Rattle.config_base.specs.Lines.{class_of, same_tag, router_at, block_at, export_of, import_of, own_tag}

when : (b : Bool) (o p : Option Tag) → (if b then o else None) ≡ p → is_some p ≡ true → b ≡ true
when true o p h some = refl
when false o p h some = absurd (true≢false (sym some ∙ ap is_some (sym h)))

-- ---- lines of one block

abbrev pub exports_tag : ℕ → Tag → Export → Bool
exports_tag class tag e = e.class == class && same_tag e.tag tag

abbrev pub imports_tag : PlainNet → ℕ → ℕ → Tag → Import → Bool
imports_tag net from class tag rule = rule.class == class && (is_peer net from || same_tag rule.tag tag)

abbrev pub names_prefix : PlainPrefix → ℕ → Origination → Bool
names_prefix p class o = o.class == class && same_prefix o.prefix p

module _ (net : PlainNet) (config : PlainConfig) (class x z : ℕ) (b : Session) (at : block_at net config x z ≡ Some b) where
  export_at : (tag : Tag) → export_of net config class x z tag ≡ (if list_any (exports_tag class tag) b.exports then Some (if is_peer net z then no_tag else tag) else None)
  export_at tag = rw (at) refl

  pub is_exported : (tag : Tag) → list_any (exports_tag class tag) b.exports ≡ true → is_some (export_of net config class x z tag) ≡ true
  is_exported tag h = rw (export_at tag, h) refl

  pub was_exported : (tag : Tag) → is_some (export_of net config class x z tag) ≡ true → list_any (exports_tag class tag) b.exports ≡ true
  was_exported tag h = when (list_any (exports_tag class tag) b.exports) (Some (if is_peer net z then no_tag else tag)) (export_of net config class x z tag) (sym (export_at tag)) h

-- what a rule gives
abbrev pub gift : Import → Tag × ℕ
gift rule = (rule.set, rule.pref)

module _ (net : PlainNet) (config : PlainConfig) (class at from : ℕ) (tag : Tag) where
  no_import : block_at net config at from ≡ None → import_of net config class at from [] tag ≡ None
  no_import e = elim (cases_Bool (is_peer net from)) [
    | inl t ↦ rw (e, t) refl
    | inr t ↦ rw (e, t) refl
  ]

  import_none : (b : Session) → block_at net config at from ≡ Some b → find (imports_tag net from class tag) b.imports ≡ None → import_of net config class at from [] tag ≡ None
  import_none b e f = elim (cases_Bool (is_peer net from)) [
    | inl t ↦ rw (e, f, t) refl
    | inr t ↦ rw (e, f, t) refl
  ]

  pub import_some : (b : Session) (rule : Import) → block_at net config at from ≡ Some b → find (imports_tag net from class tag) b.imports ≡ Some rule
      → import_of net config class at from [] tag ≡ Some (gift rule)
  import_some b rule e f = elim (cases_Bool (is_peer net from)) [
    | inl t ↦ rw (e, f, t) refl
    | inr t ↦ rw (e, f, t) refl
  ]

  -- an import comes from a rule of the block
  pub imported_by : (q : Tag × ℕ) → import_of net config class at from [] tag ≡ Some q
      → (b : Session) × (rule : Import) × (block_at net config at from ≡ Some b) × (find (imports_tag net from class tag) b.imports ≡ Some rule) × (gift rule ≡ q)
  imported_by q h = elim (cases_Option (block_at net config at from)) [
    | inl e ↦ let clash : None ≡ Some q = sym (no_import e) ∙ h in absurd (cc)
    | inr e ↦ elim (cases_Option (find (imports_tag net from class tag) e.0.imports)) [
      | inl f ↦ let clash : None ≡ Some q = sym (import_none e.0 e.1 f) ∙ h in absurd (cc)
      | inr f ↦ let same : Some (gift f.0) ≡ Some q = sym (import_some e.0 f.0 e.1 f.1) ∙ h in (e.0, f.0, e.1, f.1, cc)
    ]
  ]

-- what an origin's own route has by an `originate` line
pub own_by : (net : PlainNet) (config : PlainConfig) (p : PlainPrefix) (class v : ℕ) (r : RouterConfig) (o : Origination) → class_of config p ≡ Some class → router_at net config v ≡ Some r
    → find (names_prefix p class) r.own ≡ Some o → own_tag net config p v ≡ o.tag
own_by net config p class v r o of_class at found = rw (at, of_class, found) refl
