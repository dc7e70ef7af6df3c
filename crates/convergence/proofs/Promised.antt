-- The promise of the whole, from its parts. Assumes nothing.
use Rattle.model.specs.Promise.{Main}
use Rattle.convergence.proofs.Runs.{always_proper, none_refused}
use Rattle.convergence.proofs.Falling.{stops}
use Rattle.convergence.proofs.Quiescence.{settles}
use Rattle.convergence.proofs.Arrival.{arrive}

pub promised : Main
promised w find sound s run =
    record {
      ends = stops w find sound s run;
      heard = none_refused w find sound s run;
      settled = settles w find sound s run;
      arrive = arrive w find sound s run;
      proper = always_proper w find sound s run;
    }
