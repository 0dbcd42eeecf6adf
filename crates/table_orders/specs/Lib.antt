-- The definitions that the contracts of `table_orders` cite.
pub mod OrderTable
