use Rattle.delivery.proofs.Finishing.{every_packet_ends}
use Rattle.delivery.proofs.laws.every_packet_ends.Goals as goal

pub returns : goal.returns
returns c = every_packet_ends
