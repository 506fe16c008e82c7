use Rattle.rest_law.proofs.Secure.{some_router_is_secure}
use Rattle.rest_law.proofs.secure_routers.some_router_is_secure.Goals as goal

pub returns : goal.returns
returns c = some_router_is_secure
