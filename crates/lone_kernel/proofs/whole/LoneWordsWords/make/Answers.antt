use Rattle.lone_kernel.proofs.Making.{below_made, stepped_are, stepped_core, stepped_told}
use Rattle.lone_kernel.proofs.whole.LoneWordsWords.make.Goals as goal

pub perform-found-requires : goal.perform-found-requires
perform-found-requires g c = below_made g.B.Beginning.words g.B.Beginning.core c.self.inside.made c.args.self.now c.self.inside.words.items
    c.args.op c.self.invariant c.self.view_is c.requires.due

pub invariant_of-self : goal.invariant_of-self
invariant_of-self g c = stepped_are g.B.Beginning.words g.B.Beginning.core c.self.inside.made c.args.self.now c.self.inside.words.items
    c.args.op c.self.invariant c.self.view_is c.requires.due c.perform-found.result c.told.result c.perform-found.new.words.items
    c.perform-found.ensures.found c.perform-found.ensures.left c.told.ensures

pub returns-clause-goes : goal.returns-clause-goes
returns-clause-goes g c = stepped_core g.B.Beginning.words g.B.Beginning.core c.self.inside.made c.args.self.now c.self.inside.words.items
    c.args.op c.self.invariant c.self.view_is c.requires.due c.perform-found.result c.told.result c.perform-found.new.words.items
    c.perform-found.ensures.found c.perform-found.ensures.left c.told.ensures

pub returns-clause-told : goal.returns-clause-told
returns-clause-told g c = stepped_told g.B.Beginning.words g.B.Beginning.core c.self.inside.made c.args.self.now c.self.inside.words.items
    c.args.op c.self.invariant c.self.view_is c.requires.due c.perform-found.result c.told.result c.perform-found.new.words.items
    c.perform-found.ensures.found c.perform-found.ensures.left c.told.ensures

pub returns-clause-fits : goal.returns-clause-fits
returns-clause-fits g c = (stepped_are g.B.Beginning.words g.B.Beginning.core c.self.inside.made c.args.self.now c.self.inside.words.items
    c.args.op c.self.invariant c.self.view_is c.requires.due c.perform-found.result c.told.result c.perform-found.new.words.items
    c.perform-found.ensures.found c.perform-found.ensures.left c.told.ensures).fits
