-- Worked examples of schedules from elsewhere and of proposals.
pub mod Plans
pub mod ScheduleTable
pub mod ProposalTable
