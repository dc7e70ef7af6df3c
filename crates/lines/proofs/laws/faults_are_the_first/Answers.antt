use Rattle.lines.proofs.Last.{faults_are_the_first_lem}
use Rattle.lines.proofs.laws.faults_are_the_first.Goals as goal

pub returns : goal.returns
returns c = faults_are_the_first_lem
