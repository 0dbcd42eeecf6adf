-- Texts are read, or refused, as stated. Assumes nothing.
use mathlib.Core.Path.{refl}
use Rattle.task_set.specs.Sets.{has, insert}
use Rattle.plan.specs.Rules.{time_of, predecessors_of, instant_of}
use Rattle.text_form.specs.Form.{split, every, is_field, value_from, form_of, line_of}
use Rattle.text_fault.specs.Faults.{first_fault}
use Rattle.plan_text.specs.Reading.{line_done}
use Rattle.plan_text.specs.Text.{read_lines, read_text}
use Rattle.worked_examples.specs.Rows.{Holds}
use Rattle.worked_texts.specs.Bytes.{bytes}
use Rattle.worked_texts.specs.ReadingTable.{after, read, range_table, form_table, fault_table, place_table, kept_table}

pub ranges : Holds range_table
unfolding has insert time_of predecessors_of instant_of split every is_field value_from form_of line_of first_fault line_done read_lines read_text
    bytes after range_table
ranges = (refl, (refl, (refl, (refl, (refl, (refl, (refl, (refl, tt))))))))

pub forms : Holds form_table
unfolding has insert time_of predecessors_of instant_of split every is_field value_from form_of line_of first_fault line_done read_lines read_text
    bytes after form_table
forms = (refl, (refl, (refl, (refl, (refl, (refl, (refl, (refl, tt))))))))

pub faults : Holds fault_table
unfolding has insert time_of predecessors_of instant_of split every is_field value_from form_of line_of first_fault line_done read_lines read_text
    bytes after fault_table
faults = (refl, (refl, (refl, (refl, (refl, (refl, (refl, (refl, (refl, (refl, (refl, tt)))))))))))

pub places : Holds place_table
unfolding has insert time_of predecessors_of instant_of split every is_field value_from form_of line_of first_fault line_done read_lines read_text
    bytes read place_table
places = (refl, (refl, (refl, (refl, tt))))

pub what_is_kept : Holds kept_table
unfolding has insert time_of predecessors_of instant_of split every is_field value_from form_of line_of first_fault line_done read_lines read_text
    bytes kept_table
what_is_kept = (refl, (refl, (refl, tt)))
