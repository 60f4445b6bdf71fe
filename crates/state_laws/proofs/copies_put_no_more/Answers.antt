use Rattle.state_laws.proofs.CopyRights.{copies_put_no_more}
use Rattle.state_laws.proofs.copies_put_no_more.Goals as goal

pub returns : goal.returns
returns c = copies_put_no_more
