-- No message has more bytes than the most. Assumes nothing.
use Rattle.std.proofs.Common.{ℕ, ◌≤◌, length}
use Rattle.model.specs.Selection.{Said}
use Rattle.model.specs.Packets.{Packet}
use Rattle.messages.specs.Meaning.{packet_message, update_message}
use Rattle.messages.specs.Places.{most_bytes}
use Rattle.messages.specs.Writing.{packet_written, update_written}
use Rattle.messages.proofs.Sizes.{bytes_most}

pub update_most : (network block : ℕ) (says : Said) → length (update_written network block says) ≤ most_bytes
update_most network block says = bytes_most (update_message network block says)

pub packet_most : (network : ℕ) (p : Packet) → length (packet_written network p) ≤ most_bytes
packet_most network p = bytes_most (packet_message network p)
