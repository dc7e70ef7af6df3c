-- The kinds of messages, and their bytes. Assumes nothing.
use Rattle.std.specs.Prelude.{◌≡◌, ℕ, false, Ok, Err, Result}
use Rattle.messages.specs.declared.cause.Cause.{Cause}
use Rattle.messages.specs.declared.cause.Cause.TheVariants.{UnknownKind}
use Rattle.messages.specs.declared.kind.Kind.{Kind}
use Rattle.messages.specs.declared.kind.Kind.TheVariants.{Way, Withdrawal, Packet, Turn}
use Rattle.messages.specs.Places.{is_kind}

abbrev pub number : Kind → ℕ
number Way = 1
number Withdrawal = 2
number Packet = 3
number Turn = 4

-- the kind that a byte is, or that it is none
abbrev pub IsKindOf : ℕ → Result Kind Cause → Type 0
IsKindOf byte (Ok kind) = byte ≡ number kind
IsKindOf byte (Err cause) = (cause ≡ UnknownKind) × (is_kind byte ≡ false)
