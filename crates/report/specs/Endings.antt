-- The words in which it is told how a packet ended.
use Rattle.std.specs.Prelude.{ℕ, List, ◌++◌, codes, decimal}
use Rattle.text.specs.Dotted.{dotted}
use Rattle.forwarding.specs.declared.packet.Ending.{Ending}
use Rattle.forwarding.specs.declared.packet.Fate.{Fate}
use Rattle.forwarding.specs.declared.packet.Fate.TheVariants.{Arrived, Dropped}
use Rattle.model.specs.declared.drop_reason.DropReason.{DropReason}
use Rattle.model.specs.declared.drop_reason.DropReason.TheVariants.{NoBlock, NoRoute, NoHops}

-- why it was dropped
abbrev pub reason_words : DropReason → List ℕ
reason_words NoBlock = codes "no block"
reason_words NoRoute = codes "no road"
reason_words NoHops = codes "no step left"

-- what became of it, where and after how many steps
abbrev pub fate_words : Fate → ℕ → ℕ → List ℕ
fate_words Arrived network steps = codes "arrived at " ++ (decimal network ++ (codes ", steps " ++ decimal steps))
fate_words (Dropped reason) network steps =
    codes "dropped at " ++ (decimal network ++ (codes ", steps " ++ (decimal steps ++ (codes ", " ++ reason_words reason))))

-- the line of an end: the address that the packet was for, and its fate
abbrev pub end_words : Ending → List ℕ
end_words e =
    codes "packet to " ++ (dotted e.address.0 ++ (codes ": " ++ (fate_words e.fate e.network e.steps ++ codes "\n")))
