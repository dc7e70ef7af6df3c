-- In every run paths are proper, and no update is refused. Assumes nothing.
use Rattle.std.proofs.Common.{subst}
use Rattle.model.specs.Steps.{hears}
use Rattle.model.specs.Promise.{ProperSaying}
use Rattle.model.specs.PromiseLaws.{AlwaysProper, NoneRefused}
use Rattle.convergence.proofs.Newest.{newest_proper}
use Rattle.convergence.proofs.Goodness.{choice_proper}
use Rattle.convergence.proofs.Keeping.{Kept, flies_up}
use Rattle.convergence.proofs.Delivery.{unrefused}
use Rattle.convergence.proofs.Steps.{run_kept}

pub always_proper : AlwaysProper
always_proper w find sound s run =
    let h : Kept w s = run_kept w find sound run in
    record {
      received = λ i j b. h.held i b j;
      advertised = λ i k b. subst (ProperSaying w k i b) (h.newest i k b) (newest_proper w k i b (s.flight i k) ((s.locals k).received b i) (h.flying i k) (h.held k b i));
      chosen = λ i b. choice_proper w i (s.locals i) b (h.held i);
      flying = h.flying;
    }

pub none_refused : NoneRefused
none_refused w find sound s run =
    let h : Kept w s = run_kept w find sound run in
    record {
      progress = λ i j x rest e. let t = h.tied i j (flies_up w s h i j x rest e) in hears s i j x rest t.here t.there e;
      unrefused = λ i j u rest e. unrefused w sound s h i j u rest e;
    }
