-- The test of two sayings. Assumes nothing.
use Rattle.std.proofs.Common.{Some, None, sym, refl, ap}
use Rattle.std.proofs.lemmas.Bool.{false≢true}
use Rattle.std.proofs.lemmas.Option.{none-some, same_Some}
use Rattle.std.proofs.lemmas.Slice.Eq.{bytes_eq-Decides}
use Rattle.model.specs.ExportLaws.{SameSaying}

pub same_saying_decides_lem : SameSaying
same_saying_decides_lem None None = (λ _. refl, λ _. refl)
same_saying_decides_lem None (Some q) = (λ e. absurd (false≢true e), λ e. absurd (none-some q e))
same_saying_decides_lem (Some p) None = (λ e. absurd (false≢true e), λ e. absurd (none-some p (sym e)))
same_saying_decides_lem (Some p) (Some q) =
    let d = bytes_eq-Decides p.networks q.networks in
    (λ e. λ i. Some (record { networks = d.0 e i }), λ e. d.1 (ap (λ x. x.networks) (same_Some p q e)))
