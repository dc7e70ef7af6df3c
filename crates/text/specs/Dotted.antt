-- An address of 32 bits as four numbers, the highest first, with dots between them. Assumes nothing.
use Rattle.std.specs.Prelude.{ℕ, ◌/◌, ◌%◌, List, [], ◌∷◌, ◌++◌, codes, decimal}

-- its four bytes, the highest first
abbrev pub byte0 : ℕ → ℕ
byte0 a = a / 16777216 % 256

abbrev pub byte1 : ℕ → ℕ
byte1 a = a / 65536 % 256

abbrev pub byte2 : ℕ → ℕ
byte2 a = a / 256 % 256

abbrev pub byte3 : ℕ → ℕ
byte3 a = a % 256

-- all four
abbrev pub address_bytes : ℕ → List ℕ
address_bytes a = byte0 a ∷ byte1 a ∷ byte2 a ∷ byte3 a ∷ []

abbrev pub dotted : ℕ → List ℕ
dotted a =
    decimal (byte0 a) ++ (codes "." ++ (decimal (byte1 a) ++
    (codes "." ++ (decimal (byte2 a) ++ (codes "." ++ decimal (byte3 a))))))
