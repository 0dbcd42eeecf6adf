-- The definitions that the contracts of `timetable` cite.
pub mod Table
