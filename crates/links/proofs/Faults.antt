-- A path by value: it is no path, or the checks of an announcement are those of it. Assumes nothing.
use Rattle.std.proofs.Common.{◌≡◌, ℕ, ◌≤◌, true, false, cond, not, ◌&&◌, ◌||◌, eqb, ltb, leb, List, [], ◌∷◌, length, take, replicate, ◌++◌, Some, None, sym, ap, ◌∙◌, arith, length-append}
use lib.ListN.{length-replicate}
use Rattle.std.proofs.lemmas.List.{length-take-le, take-append-le}
use Rattle.std.proofs.lemmas.Bool.{cond-true, not_from_true}
use Rattle.std.proofs.lemmas.Bool.Decides.{nat_tests}
use Rattle.model.specs.Checks.{Checks, first_fault}
use Rattle.model.specs.Hearing.{bad_length, hearing_checks, hearing_fault, network_checks, teller_checks, way_checks}
use Rattle.model.specs.Local.{Local}
use Rattle.model.specs.Paths.{below, path_over}
use Rattle.model.specs.World.{World}
use Rattle.model.specs.declared.fault.Fault.{Fault}
use Rattle.model.specs.declared.fault.Fault.TheVariants.{BadLength, NoSuchNetwork}
use Rattle.model.specs.declared.limits.TheConstants.{MOST_NETWORKS}
use Rattle.model.proofs.Checks.{first_of_first, first_of_second, none_told}
use Rattle.advertisement.specs.Updates.{networks_of, news, padded}
use Rattle.advertisement.specs.declared.update.Announcement.{Announcement}
use Rattle.advertisement.specs.declared.update.Update.TheVariants.{Announce}

-- as many networks as its length says, and those of its array where there is room
pub length_padded : (networks : List ℕ) (k : ℕ) → length (padded networks k) ≡ k
length_padded networks k = length-take-le k _ (omega (arith, length-append networks (replicate k 0), length-replicate {A = ℕ} k 0))

padded_is : (networks : List ℕ) (k : ℕ) → length networks ≡ MOST_NETWORKS → k ≤ MOST_NETWORKS → padded networks k ≡ take k networks
padded_is networks k long small = take-append-le k networks (replicate k 0) (omega arith)

bad : (networks : List ℕ) (k : ℕ) → bad_length (padded networks k) ≡ (eqb k 0 || ltb MOST_NETWORKS k)
bad networks k = ap (λ m. eqb m 0 || ltb MOST_NETWORKS m) (length_padded networks k)

module _ (w : World) (i : ℕ) (s : Local) (j : ℕ) (a : Announcement) where
  -- one that is no path is of a bad length
  pub bad_told : None ≡ networks_of a → hearing_fault w i s j (news (Announce a)) ≡ Some BadLength
  bad_told e = first_of_first ((BadLength, bad_length (padded a.networks a.length)) ∷ []) rest BadLength (cond-true (bad_length (padded a.networks a.length)) (Some BadLength) None (bad a.networks a.length ∙ is a.length (take a.length a.networks) e))
    where
      rest : Checks Fault
      rest = (NoSuchNetwork, not (below w.n (padded a.networks a.length))) ∷ (teller_checks w i s j a.block ++ way_checks w i j a.block (Some (path_over (padded a.networks a.length))))

      is : (k : ℕ) (q : List ℕ) → None ≡ cond (ltb 0 k && leb k MOST_NETWORKS) (Some q) None → (eqb k 0 || ltb MOST_NETWORKS k) ≡ true
      is k q e = grind (arith, nat_tests)

  module _ (p : List ℕ) (room : length a.networks ≡ MOST_NETWORKS) (has : Some p ≡ networks_of a) where
    fits : (k : ℕ) (p q : List ℕ) → Some p ≡ cond (ltb 0 k && leb k MOST_NETWORKS) (Some q) None → ((eqb k 0 || ltb MOST_NETWORKS k) ≡ false) × (k ≤ MOST_NETWORKS) × (p ≡ q)
    fits k p q e = grind (arith, nat_tests)

    parts : ((eqb a.length 0 || ltb MOST_NETWORKS a.length) ≡ false) × (a.length ≤ MOST_NETWORKS) × (p ≡ take a.length a.networks)
    parts = fits a.length p (take a.length a.networks) has

    same : padded a.networks a.length ≡ p
    same = padded_is a.networks a.length room parts.1 ∙ sym parts.2

    short : bad_length p ≡ false
    short = ap bad_length (sym same) ∙ bad a.networks a.length ∙ parts.0

    pub checks_of : hearing_fault w i s j (news (Announce a)) ≡ first_fault (network_checks w.n (Some (path_over p)) ++ (teller_checks w i s j a.block ++ way_checks w i j a.block (Some (path_over p))))
    checks_of = ap (λ xs. first_fault (hearing_checks w i s j (record { block = a.block; says = Some (path_over xs) }))) same

    -- past how many and which networks there are
    module _ (there : below w.n p ≡ true) where
      past_networks : hearing_fault w i s j (news (Announce a)) ≡ first_fault (teller_checks w i s j a.block ++ way_checks w i j a.block (Some (path_over p)))
      past_networks = checks_of ∙ first_of_second (network_checks w.n (Some (path_over p))) (teller_checks w i s j a.block ++ way_checks w i j a.block (Some (path_over p))) (none_told (network_checks w.n (Some (path_over p))) (short, (not_from_true _ there, tt)))

      pub teller_told : (f : Fault) → first_fault (teller_checks w i s j a.block) ≡ Some f → hearing_fault w i s j (news (Announce a)) ≡ Some f
      teller_told f e = past_networks ∙ first_of_first (teller_checks w i s j a.block) (way_checks w i j a.block (Some (path_over p))) f e

      pub way_told : first_fault (teller_checks w i s j a.block) ≡ None → first_fault (way_checks w i j a.block (Some (path_over p))) ≡ hearing_fault w i s j (news (Announce a))
      way_told e = sym (past_networks ∙ first_of_second (teller_checks w i s j a.block) (way_checks w i j a.block (Some (path_over p))) e)
