use Rattle.speck_run.proofs.Explaining.{goes_by_command}
use Rattle.speck_run.proofs.explains.explains_commands.Goals as goal

pub returns : goal.returns
returns c = goes_by_command
