use Rattle.history.proofs.orders_agree.Goals as goal
use Rattle.history.proofs.HostOrders.{orders_agree}

pub returns : goal.returns
returns c = orders_agree
