use Rattle.rest_law.proofs.Firm.{can_hold_no_more, firm_at_first, firm_at_last, firm_on}
use Rattle.rest_law.proofs.secure_routers.secure_routers_settle.Goals as goal

pub returns-clause-begin : goal.returns-clause-begin
returns-clause-begin c = firm_at_first

pub returns-clause-on : goal.returns-clause-on
returns-clause-on c = firm_on

pub returns-clause-less : goal.returns-clause-less
returns-clause-less c = can_hold_no_more

pub returns-clause-end : goal.returns-clause-end
returns-clause-end c = firm_at_last
