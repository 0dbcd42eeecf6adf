-- Worked examples of run states, ticks and replays.
pub mod StateTable
