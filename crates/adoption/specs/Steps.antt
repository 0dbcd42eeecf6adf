-- What inner functions compute. No promise of a public function cites it. Assumes nothing.
use Rattle.plan.specs.declared.Constraint.{Constraint}
use Rattle.plan.specs.declared.Verdict.{Verdict}
use Rattle.adoption_theory.specs.declared.Adoption.{Adoption}

-- what is answered with a verdict and a constraint
abbrev pub answer : Verdict → Constraint → Adoption
answer v c = record { number = v.number; place = v.place; constraint = c }
