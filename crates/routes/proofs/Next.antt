-- The lines of the networks, one line on.
use Rattle.std.proofs.Common.{◌≡◌, ℕ, suc, ◌+◌, Bool, ◌++◌, ap, ◌∙◌, sym, arith}
use Rattle.model.specs.Lists.{gather}
use Rattle.model.specs.Selection.{Choice}
use Rattle.stable.specs.Settling.{goes_by, has_way}
use Rattle.stable.specs.declared.routing.Routing.{Routing}
use Rattle.routes.specs.Accounts.{network_words, routing_line}

pub next_line : (x : Routing) (k i : ℕ) (m : Choice) (r : Bool) → i ≡ k → m ≡ goes_by x k → r ≡ has_way x k → gather (routing_line x) k ++ network_words i m r ≡ gather (routing_line x) (k + 1)
next_line x k i m r is e f =
    let one : k + 1 ≡ suc k = omega arith in
    ap (λ j. gather (routing_line x) k ++ network_words j m r) is ∙ ap (λ c. gather (routing_line x) k ++ network_words k c r) e ∙ ap (λ b. gather (routing_line x) k ++ network_words k (goes_by x k) b) f ∙ sym (ap (gather (routing_line x)) one)
