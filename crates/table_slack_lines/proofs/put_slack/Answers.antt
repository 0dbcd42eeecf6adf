-- `table_slack_lines::put_slack` meets its contract: two numbers, one more, and the slack. Assumes nothing.
use Rattle.table_lines.proofs.Stores.{put_then}
use Rattle.table_slack_lines.proofs.put_slack.Goals as goal

pub returns : goal.returns
returns c = put_then c.put_pair-finish.ensures (put_then c.put_field-margin.ensures c.put_signed.ensures)
