-- Bytes are written behind those that stand there, or nothing is. Assumes nothing.
use Rattle.std.specs.Prelude.{ℕ, List, ◌++◌, if◌then◌else◌, is_ok, Result}
use Rattle.model.specs.Selection.{Said}
use Rattle.model.specs.Packets.{Packet}
use Rattle.messages.specs.Encoding.{bytes_of}
use Rattle.messages.specs.Meaning.{packet_message, update_message}

-- what stands there after bytes were to be written behind it: where memory ended, what stood there before
abbrev pub appended : {X E : Type 0} → Result X E → List ℕ → List ℕ → List ℕ
appended result before bytes = if is_ok result then before ++ bytes else before

-- the bytes of what is said of a block, and of a packet
abbrev pub update_written : ℕ → ℕ → Said → List ℕ
update_written network block says = bytes_of (update_message network block says)

abbrev pub packet_written : ℕ → Packet → List ℕ
packet_written network p = bytes_of (packet_message network p)
