-- What a reader of bytes has before it. Assumes nothing.
use Rattle.std.specs.Prelude.{◌≡◌, ℕ, ◌+◌, ◌<◌, ◌≤◌, List, length, slice_index}
use Rattle.wire.specs.Numbers.{word16, word32}
use Rattle.wire.specs.declared.reader.Reader.{Reader}

-- all the bytes, those that are read too
abbrev pub input : Reader → List ℕ
input r = r.bytes.now

-- how many of them are read
abbrev pub place : Reader → ℕ
place r = r.at

-- nothing is left, and nothing is read
abbrev pub Ended : Reader → Reader → Type 0
Ended old new = (length (input old) ≤ place old) × (place new ≡ place old)

-- fewer than k bytes are left, and nothing is read
abbrev pub Short : ℕ → Reader → Reader → Type 0
Short k old new = (length (input old) < place old + k) × (place new ≡ place old)

-- the next byte is this, or the next two, or four, are this number
abbrev pub ByteRead : Reader → Reader → ℕ → Type 0
ByteRead old new b =
    (place old < length (input old)) × (b ≡ slice_index (input old) (place old)) × (place new ≡ place old + 1)

abbrev pub WordRead : Reader → Reader → ℕ → Type 0
WordRead old new w =
    (place old + 2 ≤ length (input old)) × (w ≡ word16 (input old) (place old)) × (place new ≡ place old + 2)

abbrev pub LongRead : Reader → Reader → ℕ → Type 0
LongRead old new w =
    (place old + 4 ≤ length (input old)) × (w ≡ word32 (input old) (place old)) × (place new ≡ place old + 4)
