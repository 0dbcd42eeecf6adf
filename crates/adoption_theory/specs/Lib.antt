-- What promises cite: schedules, what refuses one, and the constraint of one.
pub mod Schedules
