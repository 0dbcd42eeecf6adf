-- The laws that belong to no one function.
-- an order by falling keys
pub mod Keys
pub mod Inserting
