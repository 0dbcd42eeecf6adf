-- What one line does to what was read so far (document 01, "The plan text", and "When an operation says no"). Assumes nothing.
use Rattle.std.specs.Prelude.{cond, ℕ, ◌+◌, max}
use Rattle.task_set.specs.Sets.{insert}
use Rattle.plan.specs.declared.Plan.{Plan}
use Rattle.plan.specs.declared.Constraint.{Constraint}
use Rattle.plan.specs.Refusals.{no_plan, no_constraint}
use Rattle.plan.specs.Rules.{pair_index, predecessors_of}
use Rattle.text_form.specs.declared.Line.{Line}
use Rattle.text_fault.specs.declared.Seen.{Seen}
use Rattle.text_fault.specs.declared.Kind.TheVariants as Kind
use Rattle.text_fault.specs.Faults.{kind_of, first_fault}
use Rattle.text_fill.specs.Adding.{number, is_kind, counted, named, stored}

-- what was read so far; `seen` is the kind of the last line, and the tasks with a T line, with an N line and with a C line
pub record Reading : Type 0 where
  pub plan : Plan
  pub constraint : Constraint
  pub seen : Seen

-- before the first line
abbrev pub nothing : Reading
nothing = record { plan = no_plan; constraint = no_constraint; seen = record { kind = Kind.U; timed = 0; released = 0; listed = 0 } }

abbrev pub line_fault : Reading → Line → ℕ
line_fault r = first_fault r.plan.types r.plan.wcet r.plan.predecessors r.plan.deadlines r.seen

-- "The plan's tasks number one more than the greatest task here"; "`to` waits for `from`";
-- "the constraint, in the order of its lines"
unfoldable pub line_done : Reading → Line → Reading
line_done r line =
    let v = number line in
    let p = r.plan in
    let c = r.constraint in
    record {
      plan = record {
        types = counted line Kind.U p.types;
        units = stored line Kind.U p.units (v 0) (v 1);
        tasks = cond (is_kind line Kind.T) (max p.tasks (v 0 + 1)) p.tasks;
        bcet = stored line Kind.T p.bcet (pair_index (v 0) (v 1)) (v 2);
        wcet = stored line Kind.T p.wcet (pair_index (v 0) (v 1)) (v 3);
        predecessors = stored line Kind.A p.predecessors (v 1) (insert (predecessors_of p.predecessors (v 1)) (v 0));
        deadlines = stored line Kind.D p.deadlines (v 0) (v 1);
        releases = stored line Kind.N p.releases (v 0) (v 1);
      };
      constraint = record {
        len = counted line Kind.C c.len;
        order = stored line Kind.C c.order c.len (v 0);
        chosen = stored line Kind.C c.chosen c.len (v 1);
      };
      seen = record {
        kind = kind_of line;
        timed = named line Kind.T r.seen.timed;
        released = named line Kind.N r.seen.released;
        listed = named line Kind.C r.seen.listed;
      };
    }
