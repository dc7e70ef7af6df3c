-- A word that names a network. Assumes nothing.
use Rattle.std.specs.Prelude.{ℕ, cond, List, [], ◌∷◌, Some, None, Ok, Err, Option, Result, nat_lt}
use Rattle.script.specs.declared.cause.Cause.{Cause}
use Rattle.script.specs.declared.cause.Cause.TheVariants.{NotANumber, NoSuchNetwork}
use Rattle.script.specs.Digits.{value}

-- of n networks the one with this number
abbrev pub below : ℕ → Option ℕ → Result ℕ Cause
below n None = Err NotANumber
below n (Some v) = cond (nat_lt v n) (Ok v) (Err NoSuchNetwork)

-- the network that a word is the number of; a word of no byte is no number
abbrev pub network_named : ℕ → List ℕ → Result ℕ Cause
network_named n [] = Err NotANumber
network_named n (b ∷ bs) = below n (value (b ∷ bs))
