-- Configurations of the same routers, with the same neighbours.
use Rattle.std.specs.Prelude.{◌≡◌, List, [], ◌∷◌, map}
use Rattle.std.specs.List.{AllByRecursion}
use Rattle.config_base.specs.declared.config.RouterConfig.{RouterConfig}
use Rattle.config_base.specs.declared.config.Session.{Session}
use Rattle.config_base.specs.declared.config.Import.{Import}
use Rattle.config_base.specs.declared.config.Export.{Export}
use Rattle.config_base.specs.Configs.{Ascend, tag_key}

-- two blocks are of the same neighbour
pub record SameNeighbour (a b : Session) : Type 0 where
  pub name : a.name ≡ b.name
  pub asn : a.asn ≡ b.asn
  pub peer : a.peer ≡ b.peer

-- in the same order
abbrev pub SameNeighbours : List Session → List Session → Type 0
SameNeighbours [] [] = Unit {0}
SameNeighbours (a ∷ xs) (b ∷ bs) = SameNeighbour a b × SameNeighbours xs bs
SameNeighbours _ _ = ⊥

-- two blocks are of the same router, with the same neighbours
pub record SameRouter (a b : RouterConfig) : Type 0 where
  pub name : a.name ≡ b.name
  pub asn : a.asn ≡ b.asn
  pub id : a.id ≡ b.id
  pub sessions : SameNeighbours a.sessions b.sessions

abbrev pub AreAlike : List RouterConfig → List RouterConfig → Type 0
AreAlike [] [] = Unit {0}
AreAlike (a ∷ xs) (b ∷ bs) = SameRouter a b × AreAlike xs bs
AreAlike _ _ = ⊥

-- ---- order

-- the lines of a neighbour's block ascend
pub record HasOrder (s : Session) : Type 0 where
  pub imports : Ascend (map (λ (r : Import). tag_key r.class r.tag) s.imports)
  pub exports : Ascend (map (λ (e : Export). tag_key e.class e.tag) s.exports)

-- those of all blocks of a router
abbrev pub AreOrdered : RouterConfig → Type 0
AreOrdered r = AllByRecursion HasOrder r.sessions
