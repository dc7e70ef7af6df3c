-- The words of a command that stand for standard input.
use Rattle.std.specs.Prelude.{ℕ, List, bytes_eq, codes, count_by, string_bytes, String}
use Rattle.std.specs.declared.alloc.Global.{Global}

-- how many of some words are `-`
abbrev pub inputs_among : List (String Global) → ℕ
inputs_among words = count_by (λ word. bytes_eq (string_bytes word) (codes "-")) words
