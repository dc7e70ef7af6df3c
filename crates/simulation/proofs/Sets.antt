-- Choices and sayings are equal in one way at most. Assumes nothing.
use Rattle.std.proofs.Common.{◌≡◌, ℕ, List, [], ◌∷◌, Some, None, refl}
use base.Stored.{Coded-set, coded_list, coded_via, coded_ℕ}
use Rattle.model.specs.Selection.{Choice, nothing, local, via, Said}

spelled : Choice → List (List ℕ)
spelled nothing = []
spelled local = [] ∷ []
spelled (via j p) = (j ∷ p.networks) ∷ []

spelled_once : (x y : Choice) → spelled x ≡ spelled y → x ≡ y
unfolding spelled
spelled_once nothing nothing e = refl
spelled_once nothing local e = cc
spelled_once nothing (via k q) e = cc
spelled_once local nothing e = cc
spelled_once local local e = refl
spelled_once local (via k q) e = cc
spelled_once (via j p) nothing e = cc
spelled_once (via j p) local e = cc
spelled_once (via j p) (via k q) e =
    let port : j ≡ k = cc in
    let path : p.networks ≡ q.networks = cc in
    (λ z. via (port z) (record { networks = path z }))

pub choice_set : IsSet Choice
choice_set = Coded-set (coded_via (coded_list (coded_list coded_ℕ)) spelled spelled_once)

written : Said → List (List ℕ)
written None = []
written (Some p) = p.networks ∷ []

written_once : (x y : Said) → written x ≡ written y → x ≡ y
unfolding written
written_once None None e = refl
written_once None (Some q) e = cc
written_once (Some p) None e = cc
written_once (Some p) (Some q) e =
    let path : p.networks ≡ q.networks = cc in
    (λ z. Some (record { networks = path z }))

pub said_set : IsSet Said
said_set = Coded-set (coded_via (coded_list (coded_list coded_ℕ)) written written_once)
