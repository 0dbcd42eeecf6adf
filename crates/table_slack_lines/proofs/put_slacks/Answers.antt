-- `table_slack_lines::put_slacks` meets its contract: the lines, then the last; or the one line. Assumes nothing.
use mathlib.Core.Path.{◌≡◌, ap, ◌∙◌}
use mathlib.Core.Bool.{true}
use mathlib.Core.List.{List, ◌++◌}
use Prim.Native.Nat.{ℕ}
use borrow.Author.Rules.{rules}
use mir.Syntax.{w64}
use mir.ValLaws.{to_z-of_z}
use Rattle.plan.specs.declared.Plan.{Plan}
use Rattle.simulation_run.specs.declared.Simulation.{Simulation}
use Rattle.slack.specs.declared.Slacks.{Slacks}
use Rattle.slack.specs.Margins.{parts_of}
use Rattle.table_lines.specs.Steps.{Room}
use Rattle.table_lines.proofs.Stores.{put_then, room_first, room_then}
use Rattle.table_slack_lines.specs.SlackText.{slack_lines, least_line, slack_text_by, slacks_text}
use Rattle.table_slack_lines.proofs.put_slacks.Goals as goal

-- there is room for the lines and the last
room : {b : List ℕ} (p : Plan) (s : Simulation) (r : Slacks) → r.any ≡ true → Room b 0 (slacks_text p s r)
    → Room b 0 (slack_lines p.deadlines s.finishes r.slacks ++ least_line (parts_of r.least) r.task)
unfolding slack_text_by
room p s r e h = rw e at h

pub put_tasks-at-requires : goal.put_tasks-at-requires
put_tasks-at-requires c = room_first _ (room c.args.p.now c.args.s.now c.args.r.now c.if-r.true c.requires)

pub put_least-requires : goal.put_least-requires
put_least-requires c =
    rw (c.parts_of.ensures, to_z-of_z w64 c.args.r.now.least (search rules))
    (room_then c.put_tasks-at.ensures _ (room c.args.p.now c.args.s.now c.args.r.now c.if-r.true c.requires))

pub returns-then-r : goal.returns-then-r
unfolding slack_text_by
returns-then-r c =
    let e = c.parts_of.ensures ∙ ap parts_of (to_z-of_z w64 c.args.r.now.least (search rules)) in
    rw c.if-r.true (put_then c.put_tasks-at.ensures (rw e at c.put_least.ensures))

pub put_bytes-requires : goal.put_bytes-requires
unfolding slack_text_by
put_bytes-requires c = rw c.if-r.false at c.requires

pub returns : goal.returns
unfolding slack_text_by
returns c = rw c.if-r.false c.put_bytes.ensures
