-- A script grows shorter as it is read.
use Rattle.std.specs.Prelude.{ℕ, ◌<◌, Some, None, Ok, Err, Option, Result}
use Rattle.script.specs.declared.command.Command.{Command}

-- how many bytes are left: a command takes at least one
abbrev pub Shortens : {E : Type 0} → Result (Option Command) E → ℕ → ℕ → Type 0
Shortens (Ok None) was is = Unit {0}
Shortens (Ok (Some c)) was is = is < was
Shortens (Err e) was is = Unit {0}
