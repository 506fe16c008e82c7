use Rattle.std.proofs.Common.{subst}
use Rattle.std.specs.List.{AllByRecursion}
use Rattle.config_text.specs.Spelled.{HasLawfulParts}
use Rattle.route_map_text.specs.MapsSpelled.{HavePatterns, IsLawful}
use Rattle.route_map_text.proofs.PrintLaws.{maps_made}
use Rattle.route_map_text.proofs.print.print_maps.Goals as goal

pub returns-clause-text : goal.returns-clause-text
returns-clause-text c =
    maps_made c.args.maps.now c.in_ok-text.text.items c.push_bytes.new.text.items c.push_lists.new.text.items c.push_routers.new.text.items
    c.in_ok-text.ensures.items
    c.in_ok-push_bytes.ensures
    (rw c.lists.ensures.lists at c.in_ok-push_lists.ensures.text)
    (rw c.routers.ensures.routers at c.in_ok-push_routers.ensures.text)

pub returns-clause-spells : goal.returns-clause-spells
returns-clause-spells c =
    let lawful : IsLawful c.args.maps.now = record {
      rules = c.lists.ensures.rules;
      patterns = subst (AllByRecursion HavePatterns) c.lists.ensures.lists c.in_ok-push_lists.ensures.rules;
      routers = subst (AllByRecursion HasLawfulParts) c.routers.ensures.routers c.in_ok-push_routers.ensures.rules;
    } in
    record { lawful = lawful; written = returns-clause-text c }
