use Rattle.std.proofs.Common.{◌≡◌, ◌∙◌, true, false, sym}
use Rattle.std.specs.Prelude.{nat_eq}
use Rattle.std.specs.List.{list_any}
use Rattle.config_reader.proofs.KnownRouters.{known_like}
use Rattle.config_reader.proofs.routers.Routers.are_like.Goals as goal

pub returns-then-contains : goal.returns-then-contains
returns-then-contains c =
    let same : list_any (nat_eq c.args.asn) c.self.inside.known.asns.keys ≡ true = sym c.contains.ensures ∙ c.if-contains.true in
    let like = known_like c.args.name.now c.args.asn c.args.id _ _ _ _ c.self.invariant in
    rw (← c.self.view_is) (rw same at like)

pub returns-then-contains-2 : goal.returns-then-contains-2
returns-then-contains-2 c =
    let other : list_any (nat_eq c.args.asn) c.self.inside.known.asns.keys ≡ false = sym c.contains.ensures ∙ c.if-contains.false in
    let same : list_any (nat_eq c.args.id) c.self.inside.known.ids.keys ≡ true = sym c.contains-2.ensures ∙ c.if-contains-2.true in
    let like = known_like c.args.name.now c.args.asn c.args.id _ _ _ _ c.self.invariant in
    rw (← c.self.view_is) (rw (other, same) at like)

pub returns : goal.returns
returns c =
    let other : list_any (nat_eq c.args.asn) c.self.inside.known.asns.keys ≡ false = sym c.contains.ensures ∙ c.if-contains.false in
    let apart : list_any (nat_eq c.args.id) c.self.inside.known.ids.keys ≡ false = sym c.contains-2.ensures ∙ c.if-contains-2.false in
    let like = known_like c.args.name.now c.args.asn c.args.id _ _ _ _ c.self.invariant in
    rw (← c.self.view_is) (c.contains-3.ensures ∙ (rw (other, apart) at like))
