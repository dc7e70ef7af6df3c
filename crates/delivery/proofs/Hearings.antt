-- Hearings one after the other. Assumes nothing.
use Rattle.std.proofs.Common.{◌≡◌, ℕ, ◌<◌, List, [], ◌∷◌, ◌++◌, subst, sym, append_assoc, append-nil}
use Rattle.model.specs.World.{World}
use Rattle.model.specs.Run.{Item, State, Reach, taken}
use Rattle.model.specs.Steps.{move, hears}
use Rattle.model.specs.Packets.{Lookup}
use Rattle.model.specs.Ends.{Ended, end_heard, ends}
use Rattle.model.specs.Flight.{Heard, hearing, none}

-- what is heard in a run goes on with it
pub heard_on : (w : World) (find : Lookup) (s t : State) (es : List Ended) → Reach w find s → Heard w find s t es → Reach w find t
heard_on w find s t es run (none s') = run
heard_on w find s t es run (hearing s' i j x rest hi hj e t' later h) = heard_on w find (taken w find i j x rest s') t' later (move run (hears s' i j x rest hi hj e)) h

-- some hearings and then others
pub heard_then : (w : World) (find : Lookup) (s t u : State) (es fs : List Ended) → Heard w find s t es → Heard w find t u fs → Heard w find s u (es ++ fs)
heard_then w find s t u es fs (none s') k = k
heard_then w find s t u es fs (hearing s' i j x rest hi hj e t' later h) k =
    subst (Heard w find s' u) (sym (append_assoc (ends (end_heard w find i j s')) later fs))
    (hearing s' i j x rest hi hj e u (later ++ fs) (heard_then w find (taken w find i j x rest s') t' u later fs h k))

-- and one more
pub heard_more : (w : World) (find : Lookup) (s t : State) (es : List Ended) → Heard w find s t es → (i j : ℕ) (x : Item) (rest : List Item) → i < w.n → j < w.n → t.flight i j ≡ x ∷ rest → Heard w find s (taken w find i j x rest t) (es ++ ends (end_heard w find i j t))
heard_more w find s t es h i j x rest hi hj e =
    let then = taken w find i j x rest t in
    subst (λ l. Heard w find s then (es ++ l)) (append-nil (ends (end_heard w find i j t)))
    (heard_then w find s t then es (ends (end_heard w find i j t) ++ []) h (hearing t i j x rest hi hj e then [] (none then)))
