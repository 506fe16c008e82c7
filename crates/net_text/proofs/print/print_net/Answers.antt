use Rattle.std.proofs.Common.{◌++◌, ◌∷◌, [], ◌∙◌, List, ℕ, ap, map, subst}
use Rattle.std.specs.Prelude.{codes}
use Rattle.list_law.proofs.Pieces.{written}
use Rattle.serde_json.specs.Written.{compact_text}
use Rattle.json_values.specs.Json.{array_of}
use Rattle.net_base.specs.declared.net.Site.{Site}
use Rattle.topology.specs.Topology.{spelled}
use Rattle.net_text.specs.NetText.{HaveNames, link_data, site_data}
use Rattle.net_text.proofs.Items.{net_as}
use Rattle.net_text.proofs.ReadAgain.{read_again}
use Rattle.net_text.proofs.print.print_net.Goals as goal

pub returns : goal.returns
returns c =
    let net = c.args.net.now in
    let text =
    written []
    ((codes "{\"links\":", c.push_bytes.new.text.items) ∷
    (compact_text (array_of (map (link_data net) net.links)), c.push_links.new.text.items) ∷
    (codes ",\"peers\":", c.push_bytes-2.new.text.items) ∷
    (compact_text (array_of (map site_data net.peers)), c.push_sites.new.text.items) ∷
    (codes ",\"routers\":", c.push_bytes-3.new.text.items) ∷
    (compact_text (array_of (map site_data net.routers)), c.push_sites-2.new.text.items) ∷
    (codes "}\n", c.push_bytes-4.new.text.items) ∷ []) (
      c.in_ok-push_bytes.ensures
          ∙ ap (λ (t : List ℕ). t ++ codes "{\"links\":") c.new-text.ensures.items,
      (
        c.in_ok-push_links.ensures,
        (
          c.in_ok-push_bytes-2.ensures,
          (
            c.in_ok-push_sites.ensures.text
                ∙ ap (λ (ss : List Site). c.push_bytes-2.new.text.items ++ compact_text (array_of (map site_data ss))) c.peers.ensures.peers,
            (
              c.in_ok-push_bytes-3.ensures,
              (
                c.in_ok-push_sites-2.ensures.text
                    ∙ ap (λ (ss : List Site). c.push_bytes-3.new.text.items ++ compact_text (array_of (map site_data ss))) c.routers.ensures.routers,
                (c.in_ok-push_bytes-4.ensures, tt),
              ),
            ),
          ),
        ),
      ),
    )
    ∙ net_as net in
    record {
      text = text;
      read =
          ap spelled text
          ∙ read_again net c.peers.ensures.rules (subst HaveNames c.routers.ensures.routers c.in_ok-push_sites-2.ensures.rules)
          (subst HaveNames c.peers.ensures.peers c.in_ok-push_sites.ensures.rules);
    }
