use Rattle.confinement.proofs.Standing.{chain_is}
use Rattle.confinement.proofs.origins.Origins.chain.Goals as goal

pub returns-clause-exact : goal.returns-clause-exact
returns-clause-exact c = chain_is c.args.self.now c.args.node c.args.entry c.in_ok-found.found c.in_ok-found.ensures
