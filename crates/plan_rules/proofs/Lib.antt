-- What the functions of the rules find.
-- the rules of the tasks in the order in which they are tested, and the rule of predecessors
pub mod Parts
pub mod Judging
