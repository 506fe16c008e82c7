use Rattle.std.proofs.Common.{◌≡◌, ◌≢◌, ◌++◌, ◌∙◌, refl, length, map, Ok, Err}
use Rattle.std.proofs.lemmas.List.{length-map}
use Rattle.topology.specs.declared.fault.TopoFault.TheVariants.{NoMemory}
use Rattle.topology.specs.Rules.{network_of, links_of, names_of}
use Rattle.topology.specs.Views.{named_entry, raw_ends}
use Rattle.topology.proofs.Networks.{network_of-links}
use Rattle.list_law.proofs.Exits.{passed_on}
use Rattle.topology.proofs.rules.network_among.Goals as goal

pub returns-in_err-sites : goal.returns-in_err-sites
returns-in_err-sites c =
    let rs = map named_entry c.args.routers.now in
    let ps = map named_entry c.args.peers.now in
    let whole : c.in_err-sites.field-0.0 ≢ NoMemory → network_of rs ps (map raw_ends c.args.ends.now) ≡ Err c.in_err-sites.field-0.0 = λ n.
    c.in_err-sites.ensures.fault n (map raw_ends c.args.ends.now) (rw c.requires.entries at c.in_ok-names.ensures.ok) in
    rw (passed_on c.from_residual-in_err-sites.result c.from_residual-in_err-sites.ensures.1)
    whole

pub returns-in_err-links : goal.returns-in_err-links
returns-in_err-links c =
    let rs = map named_entry c.args.routers.now in
    let ps = map named_entry c.args.peers.now in
    let lawful = c.in_ok-sites.ensures.sites in
    let linked : c.in_err-links.field-0.0 ≢ NoMemory → links_of (names_of (rs ++ ps)) (length rs) (map raw_ends c.args.ends.now) ≡ Err c.in_err-links.field-0.0 =
    rw (c.in_ok-names.ensures.names, c.requires.entries, ← length-map c.args.routers.now named_entry) at c.in_err-links.ensures in
    let whole : c.in_err-links.field-0.0 ≢ NoMemory → network_of rs ps (map raw_ends c.args.ends.now) ≡ Err c.in_err-links.field-0.0 = λ n.
    network_of-links rs ps (map raw_ends c.args.ends.now) _ _ (rw c.requires.entries at c.in_ok-names.ensures.ok) lawful.0 lawful.1 lawful.2 lawful.3
    ∙ rw (linked n) refl in
    rw (passed_on c.from_residual-in_err-links.result c.from_residual-in_err-links.ensures.1)
    whole

pub returns : goal.returns
returns c =
    let rs = map named_entry c.args.routers.now in
    let ps = map named_entry c.args.peers.now in
    let lawful = c.in_ok-sites.ensures.sites in
    let linked : links_of (names_of (rs ++ ps)) (length rs) (map raw_ends c.args.ends.now) ≡ Ok c.in_ok-links.links.items =
    rw (c.in_ok-names.ensures.names, c.requires.entries, ← length-map c.args.routers.now named_entry) at c.in_ok-links.ensures in
    rw (c.from_vec.ensures, c.from_vec-2.ensures, c.from_vec-3.ensures) (
    network_of-links rs ps (map raw_ends c.args.ends.now) _ _ (rw c.requires.entries at c.in_ok-names.ensures.ok) lawful.0 lawful.1 lawful.2 lawful.3
    ∙ rw linked refl
    )
