-- `table_slack_lines::put_least` meets its contract: the letter, the slack and the task, one after the other. Assumes nothing.
use Rattle.table_lines.proofs.Stores.{put_then}
use Rattle.table_slack_lines.proofs.put_least.Goals as goal

pub returns : goal.returns
returns c = put_then c.put_bytes-margin.ensures (put_then c.put_signed-next.ensures c.put_field.ensures)
