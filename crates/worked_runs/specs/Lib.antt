-- Worked examples of runs, journals, simulations and margins.
pub mod LimitTable
pub mod RunTable
