use Rattle.event_law.proofs.Together.{order_is_free}
use Rattle.event_law.proofs.choices_have_no_order.Goals as goal

pub returns : goal.returns
returns c = order_is_free
