-- What promises cite: the order in which tasks are placed, the unit of each, the schedule, and the answer.
pub mod Proposals
-- what laws and inner functions rely on
pub mod Units
