use Rattle.route_maps.proofs.Means.{MeansAs-maps_of}
use Rattle.route_maps.proofs.laws.maps_mean_what_lines_mean.Goals as goal

pub returns : goal.returns
returns c = MeansAs-maps_of
