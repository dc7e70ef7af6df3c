-- The rules, in the order in which to read them. Up to Promise each file is of what the promise says; those after it are
-- laws, which hold of the rules and add nothing to them. No file assumes anything.
--
-- network      one village's router, by its number
-- link         joins two related networks, is up or down, keeps the order each way, forgets all when it turns
-- port         where a link ends at a network: today the number of the neighbour at its far end
-- block        a range of addresses, with its homes
-- path         the networks that a packet passes, the next one first, a home last
-- received     what a neighbour told last of a block, by block and port
-- selected     what a network goes by for a block: nothing, its own home, or a path received at a port
-- export       what a network tells its neighbours of what it selected
-- advertised   what a neighbour was told last of a block, by block and port
-- in flight    what was sent over a link and is not heard yet
-- quiescent    no update is in flight; packets may be
-- hops         the steps that a packet has left

-- lists one after the other
pub mod Lists
-- what may be wrong with a thing, and what of it is told
pub mod FirstFault
-- what networks are to each other; cycles of customers
pub mod Relations
-- where the links of a network end
pub mod Ports
-- paths, and what makes one valley-free
pub mod Paths
-- which of the paths that were received a network goes by
pub mod Selection
-- what of that it may tell each neighbour
pub mod Export
-- the networks, how they select, the homes of the blocks; when the ties are sound
pub mod World
-- what one network holds, and what it exports when some blocks are due
pub mod Local
-- what it does with an update and with a link that turns, and what it refuses
pub mod Hearing
-- what it does with a packet; the trip of a packet
pub mod Packets
-- the one routing in which each network goes by what the others tell
pub mod Stable
-- a run of networks of any kind: moves, turns of links, sendings
pub mod Steps
-- the run of these networks
pub mod Run
-- the promise
pub mod Promise
-- Laws: the parts of the promise, and that no order of looking matters
pub mod PromiseLaws
-- that of the faults of a thing the lowest is told
pub mod Checks
-- which cycle of customers is told
pub mod Cycles
-- that providers can be put above their customers
pub mod Heights
-- of every selection: what is chosen, and by what
pub mod SelectionLaws
-- of everything that is told
pub mod ExportLaws
-- of every router, whatever it hears
pub mod RouterLaws
-- the levels of channels, on which convergence rests
pub mod Levels
-- what is left in flight, as a number that falls
pub mod Measure
-- how a packet ends
pub mod Ends
-- hearings in any order, and the packets in flight
pub mod Flight
-- of packets: each ends once, by its fate
pub mod PacketLaws
