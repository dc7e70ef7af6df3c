use Rattle.std.proofs.Common.{◌≡◌, ◌+◌, ◌-◌, ◌≤◌, ◌++◌, length, drop, replicate, take}
use Rattle.wire.specs.Reading.{input, place}
use Rattle.messages.proofs.decoder.read_path.Given as goal

abbrev pub invariant-loop-k : goal.invariant-loop-k
invariant-loop-k l = record { source : input l.reader ≡ input l.initial.reader; at : place l.reader ≡ place l.initial.reader + l.k; there : place l.initial.reader + l.k ≤ length (input l.initial.reader); says : l.path ≡ take l.k (drop (place l.initial.reader) (input l.initial.reader)) ++ replicate (64 - l.k) 0 }
