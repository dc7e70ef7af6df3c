-- What it gives on: that boxes whose bytes are carried in order keep the promise.
-- the run of boxes that exchange bytes
pub mod Wires
-- the promise over bytes
pub mod Laws
-- the same of the boxes of networks with sound relations
pub mod Boxes
