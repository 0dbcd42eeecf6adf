-- The laws and theorems of the live run, in reading order.
-- the positions of a state's order
pub mod Standing
-- a tidy state is the state that stands for its notes
pub mod StateBack
-- what the sets of tasks say of a task: its own position decides
pub mod Choices
-- the walk on a tidy state is the walk on its notes
pub mod WalkedStates
-- the state that a run begins with
pub mod FreshStates
-- a sound state with running tasks reported
pub mod ReportedStates
-- the faulty sets of a report are those of the journal
pub mod Reports
-- whether a state is sound, by its sets
pub mod Judging
-- what a tick answers
pub mod TickAnswers
-- the notes that reports lead to are those of a tidy state
pub mod Following
-- that state is sound
pub mod SoundStates
