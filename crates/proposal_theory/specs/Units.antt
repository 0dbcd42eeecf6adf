-- The numbers of units. Assumes nothing.
use Rattle.std.specs.Prelude.{ℕ, ◌+◌, ◌*◌}
use Rattle.plan.specs.Rules.{most_units}

-- the number of unit u of type k
abbrev pub slot : ℕ → ℕ → ℕ
slot k u = k * most_units + u
