-- An address reads back from its dotted form, and what is read has 32 bits. Assumes nothing.
use Rattle.std.proofs.Common.{◌≡◌, ℕ, ◌+◌, ◌*◌, ◌%◌, ◌^◌, ◌<◌, Bool, true, false, cond, leb, List, [], ◌∷◌, ◌++◌, length, is_none, Some, None, Option, unwrap_or, decimal, refl, ap, ◌∙◌, arith}
use Rattle.std.specs.List.{All}
use Rattle.std.specs.Option.{ok_or}
use Rattle.std.proofs.lemmas.Bool.{both_ways}
use Rattle.std.proofs.lemmas.Bool.Decides.{nat_tests}
use Rattle.std.proofs.lemmas.Fmt.{decimal_by_steps, decimal_nonempty}
use Rattle.std.proofs.lemmas.List.Elements.{All-append, All-cons, All-nil}
use Rattle.std.proofs.lemmas.List.Splits.{slice_split_at, slice_split_none}
use Rattle.text.specs.declared.address.Address.{Address}
use Rattle.text.specs.Dotted.{byte0, byte1, byte2, byte3, dotted}
use Rattle.script.specs.Addresses.{address_of, between_dots, byte, is_dot, joined, of_four, of_parts, small}
use Rattle.script.specs.declared.cause.Cause.TheVariants.{NotAnAddress}
use Rattle.script.specs.Digits.{value}
use Rattle.script.specs.Laws.{AddressReadsBack}
use Rattle.script.proofs.Values.{value_decimal}

small_number : (n : ℕ) → n < 256 → small (Some n) ≡ Some n
small_number n h = grind (arith, nat_tests)

byte_number : (w : List ℕ) (n : ℕ) → 0 < length w → value w ≡ Some n → n < 256 → byte w ≡ Some n
byte_number [] n p e h = absurd (omega arith)
byte_number (b ∷ bs) n p e h = ap small e ∙ small_number n h

byte_decimal : (n : ℕ) → n < 256 → byte (decimal n) ≡ Some n
byte_decimal n h = byte_number (decimal n) n (decimal_nonempty n (omega arith)) (value_decimal n (omega arith)) h

abbrev Dotless : List ℕ → Type 0
Dotless w = All (λ b. is_dot b ≡ false) w

digit_dotless : (d : ℕ) → d < 10 → Dotless ((48 + d) ∷ [])
digit_dotless d h =
    let other : is_dot (48 + d) ≡ false = grind (arith, nat_tests) in
    All-cons (λ b. is_dot b ≡ false) (48 + d) [] other (All-nil (λ b. is_dot b ≡ false))

dotless : (n : ℕ) → n < 2 ^ 64 → Dotless (decimal n)
dotless = decimal_by_steps (λ n ds. Dotless ds) digit_dotless (λ n ds h e. All-append (λ b. is_dot b ≡ false) ds ((48 + n % 10) ∷ []) e (digit_dotless (n % 10) (omega arith)))

part_of : (n : ℕ) (rest : List ℕ) → n < 256 → between_dots (decimal n ++ (46 ∷ rest)) ≡ decimal n ∷ between_dots rest
part_of n rest h = slice_split_at is_dot (decimal n) 46 rest (dotless n (omega arith)) refl

parts_of : (a b c d : ℕ) → a < 256 → b < 256 → c < 256 → d < 256 → between_dots (decimal a ++ (46 ∷ (decimal b ++ (46 ∷ (decimal c ++ (46 ∷ decimal d)))))) ≡ decimal a ∷ decimal b ∷ decimal c ∷ decimal d ∷ []
parts_of a b c d p q r s =
    part_of a _ p ∙
    ap (λ l. decimal a ∷ l)
    (part_of b _ q ∙
    ap (λ l. decimal b ∷ l)
    (part_of c _ r ∙
    ap (λ l. decimal c ∷ l) (slice_split_none is_dot (decimal d) (dotless d (omega arith)))))

bytes_of : (a b c d : ℕ) → a < 256 → b < 256 → c < 256 → d < 256 → address_of (decimal a ++ (46 ∷ (decimal b ++ (46 ∷ (decimal c ++ (46 ∷ decimal d)))))) ≡ Some (joined a b c d)
bytes_of a b c d p q r s =
    ap of_parts (parts_of a b c d p q r s) ∙
    (λ i. of_four (byte_decimal a p i) (byte_decimal b q i) (byte_decimal c r i) (byte_decimal d s i))

-- the dotted form of every address of 32 bits reads back as itself
pub address_back : (a : Address) → a.0 < 2 ^ 32 → address_of (dotted a.0) ≡ Some a
address_back a h =
    let x : ℕ = a.0 in
    let whole : ((byte0 x * 256 + byte1 x) * 256 + byte2 x) * 256 + byte3 x ≡ x = omega arith in
    bytes_of (byte0 x) (byte1 x) (byte2 x) (byte3 x) (omega arith) (omega arith) (omega arith) (omega arith) ∙
    ap (λ v. Some (record { 0 = v })) whole

abbrev IsByte : Option ℕ → Type 0
IsByte o = (v : ℕ) → o ≡ Some v → v < 256

small_fits : (t : Bool) (u : ℕ) → leb u 255 ≡ t → IsByte (cond t (Some u) None)
small_fits true u e v h = let same : u ≡ v = cc in grind (arith, nat_tests)
small_fits false u e v h = let z : ◌≡◌ {A = ℕ} 0 1 = cc in absurd (omega arith)

number_fits : (o : Option ℕ) → IsByte (small o)
number_fits None v h = let z : ◌≡◌ {A = ℕ} 0 1 = cc in absurd (omega arith)
number_fits (Some u) v h = small_fits (leb u 255) u refl v h

byte_fits : (w : List ℕ) → IsByte (byte w)
byte_fits [] v h = let z : ◌≡◌ {A = ℕ} 0 1 = cc in absurd (omega arith)
byte_fits (b ∷ bs) v h = number_fits (value (b ∷ bs)) v h

abbrev Fit : Option Address → Type 0
Fit None = Unit {0}
Fit (Some a) = a.0 < 2 ^ 32

four_fit : (p q r s : Option ℕ) → IsByte p → IsByte q → IsByte r → IsByte s → Fit (of_four p q r s)
four_fit None q r s a b c d = tt
four_fit (Some x) None r s a b c d = tt
four_fit (Some x) (Some y) None s a b c d = tt
four_fit (Some x) (Some y) (Some z) None a b c d = tt
four_fit (Some x) (Some y) (Some z) (Some w) a b c d = omega (arith, a x refl, b y refl, c z refl, d w refl)

parts_fit : (ps : List (List ℕ)) → Fit (of_parts ps)
parts_fit [] = tt
parts_fit (a ∷ []) = tt
parts_fit (a ∷ b ∷ []) = tt
parts_fit (a ∷ b ∷ c ∷ []) = tt
parts_fit (a ∷ b ∷ c ∷ d ∷ []) = four_fit (byte a) (byte b) (byte c) (byte d) (byte_fits a) (byte_fits b) (byte_fits c) (byte_fits d)
parts_fit (a ∷ b ∷ c ∷ d ∷ e ∷ ps) = tt

some_fits : (o : Option Address) → Fit o → is_none o ≡ false → (unwrap_or o (record { 0 = 0 })).0 < 2 ^ 32
some_fits None f h = absurd (both_ways true h refl)
some_fits (Some a) f h = f

-- what is read has 32 bits
pub address_fits : (w : List ℕ) → is_none (address_of w) ≡ false → (unwrap_or (address_of w) (record { 0 = 0 })).0 < 2 ^ 32
address_fits w = some_fits (address_of w) (parts_fit (between_dots w))

pub address_reads_back : AddressReadsBack
address_reads_back a h = ap (λ o. ok_or o NotAnAddress) (address_back a h)
