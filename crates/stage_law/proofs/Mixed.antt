-- Where the classes of each cell may be mixed, so may the configurations.
use Rattle.std.proofs.Common.{◌≡◌, true, None, refl, sym, ◌∙◌, inl, inr}
use Rattle.list_law.proofs.Each.{AllByRecursion_at}
use Rattle.list_law.proofs.Tests.{find_parts}
use Rattle.policy_base.specs.Governing.{some_contains}
use Rattle.config_base.specs.Lines.{class_of, router_at}
use Rattle.net_base.specs.Network.{PlainNet}
use Rattle.net_base.specs.Prefixes.{PlainPrefix}
use Rattle.rollout_base.specs.Mixtures.{Part}
use Rattle.rollout_base.specs.Stages.{MayMix, SayAlike}
use Rattle.stage_classes.specs.declared.cell.Cell.{Cell}
use Rattle.stage_classes.specs.Laws.{cell_of}
use Rattle.stage_maker.proofs.Says.{InCell, IsNumber, in_cell_of, in_none, in_one, own_none, sends_none, stages_are_made, takes_none}
use Rattle.stage_law.specs.Mixing.{CellsMayMix, MayMixIn, StagesMakeARollout}
use Rattle.stage_law.proofs.Apart.{are_apart}
use Rattle.stage_law.proofs.Same.{say_alike}

-- what neither configuration has a class for
pub none_alike : (net : PlainNet) (x y : Part) (p : PlainPrefix) → class_of x.config p ≡ None → class_of y.config p ≡ None → SayAlike net p x.config y.config
none_alike net x y p no_x no_y = record {
  own = λ r. own_none net p x.config r no_x (router_at net x.config r) refl ∙ sym (own_none net p y.config r no_y (router_at net y.config r) refl);
  sent = λ r z tag. sends_none net p x.config r z tag no_x ∙ sym (sends_none net p y.config r z tag no_y);
  taken = λ r u path tag. takes_none net p x.config r u path tag no_x ∙ sym (takes_none net p y.config r u path tag no_y);
}

pub cells_may_mix : CellsMayMix
cells_may_mix net cells x y p lawful lawful' alike pairs each prefix =
    by (in_cell_of cells x.config y.config p (cell_of cells p) (class_of x.config p) (class_of y.config p) refl refl refl (pairs p prefix))
  where
    mixed : (c : Cell) → some_contains c.patterns p ≡ true → IsNumber x.config p c.first → IsNumber y.config p c.second → MayMixIn x.config y.config c → MayMix net p x y
    mixed c contains one two (inl same) = inr (say_alike c.patterns c.first c.second net x.config y.config alike same p contains lawful lawful' one two)
    mixed c contains one two (inr none) = inl (are_apart net p x y c.first c.second lawful lawful' one two none)

    by : InCell cells x.config y.config p → MayMix net p x y
    by (in_none none no_x no_y) = inr (none_alike net x y p no_x no_y)
    by (in_one c at one two) =
        let place = find_parts (λ (d : Cell). some_contains d.patterns p) cells c at in
        mixed c place.2 one two (AllByRecursion_at (MayMixIn x.config y.config) cells place.0 c each place.1)

pub stages_make_a_rollout : StagesMakeARollout
stages_make_a_rollout net cells turned x y p may back each prefix = record {
  first = stages_are_made net cells x.config y.config p may prefix;
  second = stages_are_made net turned y.config x.config p back prefix;
  mix = cells_may_mix net cells x y p may.start_is may.other_is may.alike may.pairs each prefix;
}
