use Rattle.period_laws.proofs.OnTime.{arrive_on_time}
use Rattle.period_laws.proofs.arrive_on_time.Goals as goal

pub returns : goal.returns
returns c = arrive_on_time
