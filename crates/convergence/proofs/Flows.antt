-- What is in flight between n networks, weighed item by item, as items are taken off and put behind. Assumes nothing.
use Rattle.std.proofs.Common.{◌≡◌, ℕ, ◌+◌, ◌<◌, cond, ◌&&◌, eqb, List, ◌∷◌, sum_by, ap, ◌∙◌, arith}
use Rattle.std.proofs.lemmas.Bool.{cond-true, cond-false, eq-eqb, ne_eqb}
use Rattle.std.proofs.lemmas.List.Sums.{sum_by-append, sum_by-cons}
use Rattle.model.specs.Run.{Item}
use Rattle.model.specs.Steps.{appended, queued}
use Rattle.model.specs.Measure.{sum}
use Rattle.convergence.proofs.Places.{appended_cases, at_place, off_place, queued_cases}
use Rattle.convergence.proofs.Sums.{sum_none, sum_place, sum_row, sum_same, sum_table}

module _ (n : ℕ) (heavy : ℕ → ℕ → Item → ℕ) where
  -- what a list weighs that is in flight from i to k, and what all that is in flight weighs
  abbrev weigh : ℕ → ℕ → List Item → ℕ
  weigh i k xs = sum_by (heavy i k) xs

  abbrev pub flow : (ℕ → ℕ → List Item) → ℕ
  flow flight = sum n (λ i. sum n (λ k. weigh i k (flight i k)))

  no_table : sum n (λ i. sum n (λ k. 0)) ≡ 0
  no_table = sum_same n (λ i. sum n (λ k. 0)) (λ i. 0) (λ i _. sum_none n) ∙ sum_none n

  -- network j puts more behind
  module _ (j : ℕ) (hj : j < n) (more : ℕ → List Item) (flight : ℕ → ℕ → List Item) where
    put : (i k : ℕ) → weigh i k (appended j more flight i k) ≡ weigh i k (flight i k) + cond (eqb i j) (weigh j k (more k)) 0
    put i k =
        appended_cases (λ xs. weigh i k xs ≡ weigh i k (flight i k) + cond (eqb i j) (weigh j k (more k)) 0) j more flight i k
        (λ e. let c = cond-true (eqb i j) (weigh j k (more k)) 0 (eq-eqb i j e) in
        let same = ap (λ y. weigh y k (more k)) e in
        omega (arith, c, same, sum_by-append (heavy i k) (flight i k) (more k)))
        (λ ne. let c = cond-false (eqb i j) (weigh j k (more k)) 0 (ne_eqb i j ne) in omega (arith, c))

    pub flow_appended : flow (appended j more flight) ≡ flow flight + sum n (λ k. weigh j k (more k))
    flow_appended =
        let t = sum_table n (λ i k. weigh i k (appended j more flight i k)) (λ i k. weigh i k (flight i k)) (λ i k. 0) (λ i k. cond (eqb i j) (weigh j k (more k)) 0) (λ i k. let p = put i k in omega (arith, p)) in
        let r = sum_row n j (λ k. weigh j k (more k)) hj in
        omega (arith, t, r, no_table)

  -- the oldest in flight from i to j is taken off
  module _ (i j : ℕ) (hi : i < n) (hj : j < n) (x : Item) (rest : List Item) (flight : ℕ → ℕ → List Item) (oldest : flight i j ≡ x ∷ rest) where
    off : (a k : ℕ) → weigh a k (queued i j rest flight a k) + cond (eqb a i && eqb k j) (heavy i j x) 0 ≡ weigh a k (flight a k)
    off a k =
        queued_cases (λ xs. weigh a k xs + cond (eqb a i && eqb k j) (heavy i j x) 0 ≡ weigh a k (flight a k)) i j rest flight a k
        (λ e f.
        let c = cond-true (eqb a i && eqb k j) (heavy i j x) 0 (at_place i j a k e f) in
        let all : weigh i j (flight i j) ≡ heavy i j x + weigh i j rest = ap (weigh i j) oldest ∙ sum_by-cons (heavy i j) x rest in
        let back : weigh a k (flight a k) ≡ weigh i j (flight i j) = (λ y. weigh (e y) (f y) (flight (e y) (f y))) in
        let part : weigh a k rest ≡ weigh i j rest = (λ y. weigh (e y) (f y) rest) in
        omega (arith, c, all, back, part))
        (λ ne. let c = cond-false (eqb a i && eqb k j) (heavy i j x) 0 (off_place i j a k ne) in omega (arith, c))

    pub flow_queued : flow (queued i j rest flight) + heavy i j x ≡ flow flight
    flow_queued =
        let t = sum_table n (λ a k. weigh a k (queued i j rest flight a k)) (λ a k. weigh a k (flight a k)) (λ a k. cond (eqb a i && eqb k j) (heavy i j x) 0) (λ a k. 0) (λ a k. let p = off a k in omega (arith, p)) in
        let r = sum_place n i j (heavy i j x) hi hj in
        omega (arith, t, r, no_table)
