-- The words in which a box tells why it refuses. Assumes nothing.
use Rattle.std.specs.Prelude.{ℕ, List, codes}
use Rattle.model.specs.declared.fault.Fault.{Fault as RouterFault}
use Rattle.model.specs.declared.fault.Fault.TheVariants.{BadLength, NoSuchNetwork, NoSuchBlock, NotRelated, LinkDown, WrongStart, WrongEnd, Repeats, NotValleyFree, NoLink}
use Rattle.messages.specs.Words.{cause_words}
use Rattle.speaker.specs.declared.fault.Fault.{Fault}
use Rattle.speaker.specs.declared.fault.Fault.TheVariants.{Router, LineOfOthers, NotAMessage}

abbrev pub words_in_links : RouterFault → List ℕ
words_in_links BadLength = codes "bad length: 0 or above 64 networks"
words_in_links NoSuchNetwork = codes "a network not below n"
words_in_links NoSuchBlock = codes "no such block"
words_in_links NotRelated = codes "a network that isn't tied"
words_in_links LinkDown = codes "a line that is down"
words_in_links WrongStart = codes "a road that doesn't begin with the teller"
words_in_links WrongEnd = codes "a road that doesn't end with the block's home"
words_in_links Repeats = codes "a road that names a network twice"
words_in_links NotValleyFree = codes "a road that isn't paid"
words_in_links NoLink = codes "no line between these networks"

abbrev pub fault_words : Fault → List ℕ
fault_words (Router fault) = words_in_links fault
fault_words LineOfOthers = codes "a line of others"
fault_words (NotAMessage cause) = cause_words cause
