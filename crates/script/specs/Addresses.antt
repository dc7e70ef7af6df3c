-- A word that is an address: four numbers between dots, each at most 255. Assumes nothing.
use Rattle.std.specs.Prelude.{ℕ, ◌+◌, ◌*◌, Bool, cond, List, [], ◌∷◌, Some, None, Option, Result, ◌==◌, nat_le}
use Rattle.std.specs.List.{slice_split}
use Rattle.std.specs.Option.{ok_or}
use Rattle.text.specs.declared.address.Address.{Address}
use Rattle.script.specs.declared.cause.Cause.{Cause}
use Rattle.script.specs.declared.cause.Cause.TheVariants.{NotAnAddress}
use Rattle.script.specs.Digits.{value}

abbrev pub is_dot : ℕ → Bool
is_dot b = b == 46

-- what stands between the dots of a word
abbrev pub between_dots : List ℕ → List (List ℕ)
between_dots w = slice_split is_dot w

-- a number that a byte can be
abbrev pub small : Option ℕ → Option ℕ
small None = None
small (Some v) = cond (nat_le v 255) (Some v) None

-- the number that a part is: of digits alone, at least one, and at most 255
abbrev pub byte : List ℕ → Option ℕ
byte [] = None
byte (b ∷ bs) = small (value (b ∷ bs))

-- of four bytes, the highest first
abbrev pub joined : ℕ → ℕ → ℕ → ℕ → Address
joined a b c d = record { 0 = ((a * 256 + b) * 256 + c) * 256 + d }

-- the address of four parts, if each is a byte
abbrev pub of_four : Option ℕ → Option ℕ → Option ℕ → Option ℕ → Option Address
of_four (Some a) (Some b) (Some c) (Some d) = Some (joined a b c d)
of_four _ _ _ _ = None

abbrev pub of_parts : List (List ℕ) → Option Address
of_parts (a ∷ b ∷ c ∷ d ∷ []) = of_four (byte a) (byte b) (byte c) (byte d)
of_parts _ = None

-- the address that a word is
abbrev pub address_of : List ℕ → Option Address
address_of w = of_parts (between_dots w)

-- what is read of a word
abbrev pub address_read : List ℕ → Result Address Cause
address_read w = ok_or (address_of w) NotAnAddress
