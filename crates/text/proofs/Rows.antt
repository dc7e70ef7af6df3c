-- A row of numbers: the first, and then each with a comma before it. Assumes nothing.
use Rattle.std.proofs.Common.{◌≡◌, ℕ, ◌≤◌, List, [], ◌∷◌, ◌++◌, length, take, codes, decimal, sym, ap, ◌∙◌, append-nil, append_assoc}
use Rattle.std.proofs.lemmas.List.{take_all}
use Rattle.std.specs.List.{flat_map}
use Rattle.text.specs.Row.{spelled}

abbrev pub after_comma : ℕ → List ℕ
after_comma y = codes ", " ++ decimal y

spelled_is : (x : ℕ) (ys : List ℕ) → decimal x ++ flat_map after_comma ys ≡ spelled (x ∷ ys)
spelled_is x [] = append-nil (decimal x)
spelled_is x (y ∷ ys) = ap (λ l. decimal x ++ (codes ", " ++ l)) (spelled_is y ys) ∙ sym (append_assoc (decimal x) (codes ", ") (spelled (y ∷ ys)))

-- when each of the others has been written
pub spelled_whole : (xs : List ℕ) (x : ℕ) (ys : List ℕ) (k : ℕ) → length ys ≤ k → xs ≡ x ∷ ys → decimal x ++ flat_map after_comma (take k ys) ≡ spelled xs
spelled_whole xs x ys k le e = ap (λ l. decimal x ++ flat_map after_comma l) (take_all k ys le) ∙ spelled_is x ys ∙ ap spelled (sym e)
