use Rattle.std.proofs.Common.{◌≡◌, ◌∙◌, [], List, ap, ap₂, sym, subst}
use Rattle.config_base.specs.declared.config.RouterConfig.{RouterConfig}
use Rattle.route_maps.specs.declared.maps.ListLine.{ListLine}
use Rattle.route_maps.specs.Maps.{PlainMaps, IsMaps}
use Rattle.route_maps.specs.OfConfig.{lists_from, maps_of, MeansAs}
use Rattle.route_maps.proofs.Means.{MeansAs-maps_of}
use Rattle.map_maker.proofs.ListsLaws.{IsMaps-maps_of}
use Rattle.map_maker.proofs.made.maps_of.Goals as goal

pub new-requires : goal.new-requires
new-requires c =
    let lists : c.in_ok-listed.listed.lists ≡ lists_from [] c.args.config.now.classes = c.in_ok-listed.ensures.lists c.if-listed-gt-MAX_LINES.false ∙ ap (lists_from []) c.classes.ensures.classes in
    let routers : c.in_ok-routers.routers ≡ c.args.config.now.routers = c.in_ok-routers.ensures ∙ c.routers-2.ensures.routers in
    let same : (let m : PlainMaps = record { lists = c.in_ok-listed.listed.lists; routers = c.in_ok-routers.routers } in m) ≡ maps_of c.args.config.now =
    ap₂ (λ (ls : List (List ListLine)) (rs : List RouterConfig). let m : PlainMaps = record { lists = ls; routers = rs } in m) lists routers in
    subst IsMaps (sym same) (IsMaps-maps_of c.args.config.now c.routers.ensures.rules)

pub returns-clause-means : goal.returns-clause-means
returns-clause-means c =
    let lists : c.in_ok-listed.listed.lists ≡ lists_from [] c.args.config.now.classes = c.in_ok-listed.ensures.lists c.if-listed-gt-MAX_LINES.false ∙ ap (lists_from []) c.classes.ensures.classes in
    let routers : c.in_ok-routers.routers ≡ c.args.config.now.routers = c.in_ok-routers.ensures ∙ c.routers-2.ensures.routers in
    let same : (let m : PlainMaps = record { lists = c.in_ok-listed.listed.lists; routers = c.in_ok-routers.routers } in m) ≡ maps_of c.args.config.now =
    ap₂ (λ (ls : List (List ListLine)) (rs : List RouterConfig). let m : PlainMaps = record { lists = ls; routers = rs } in m) lists routers in
    subst (MeansAs c.args.config.now) (sym (c.new.ensures ∙ same)) (MeansAs-maps_of c.args.config.now)
