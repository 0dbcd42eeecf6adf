-- The laws of the text of margins.
-- no text of margins is longer than there is room for
pub mod SlackRoom
-- what is answered and written for the run of worst times
pub mod WorstRun
