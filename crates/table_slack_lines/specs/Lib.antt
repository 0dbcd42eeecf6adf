-- The definitions that the contracts of `table_slack_lines` cite.
pub mod SlackText
