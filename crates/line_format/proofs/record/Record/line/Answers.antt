use Rattle.std.proofs.Common.{◌≡◌, ℕ, List, take, Result, sym, subst, w64, SFits, rules}
use Rattle.std.proofs.lemmas.Int.{to_z-of_z}
use Rattle.terms.specs.declared.refusal.Refusal.{Refusal}
use Rattle.line_format.specs.Kind.{signed}
use Rattle.line_format.specs.Record.{content, contents, opening_contents, factors_contents, enrolment_contents, gate_contents, interval_contents, degree_contents, reading_contents, tag_of, WritesField, WritesLine}
use Rattle.line_format.specs.declared.record.Record.{Record}
use Rattle.line_format.proofs.record.Record.line.Goals as goal

-- what is written of a case is written of the record
of_case : {x r : Record} (line : Result (List ℕ) Refusal) → x ≡ r → WritesLine (tag_of r) (contents r) line → WritesLine (tag_of x) (contents x) line
of_case line same written = subst (λ y. WritesLine (tag_of y) (contents y) line) (sym same) written

pub returns-in-Opening : goal.returns-in-Opening
returns-in-Opening c =
    of_case _ c.in-Opening.is (c.joined_line.ensures (take 4 (opening_contents c.in-Opening.opening)) (c.write.ensures, (c.write-in-Opening.ensures, (c.write-in-Opening-2.ensures, (c.write-in-Opening-3.ensures, tt)))))

pub returns-in-Factors : goal.returns-in-Factors
returns-in-Factors c =
    of_case _ c.in-Factors.is (c.joined_line-in-Factors.ensures (take 4 (factors_contents c.in-Factors.factors)) (c.write-in-Factors.ensures, (c.write-in-Factors-2.ensures, (c.write-in-Factors-3.ensures, (c.write-in-Factors-4.ensures, tt)))))

pub returns-in-Enrolment : goal.returns-in-Enrolment
returns-in-Enrolment c =
    of_case _ c.in-Enrolment.is (c.joined_line-in-Enrolment.ensures (take 4 (enrolment_contents c.in-Enrolment.enrolment)) (c.write-in-Enrolment.ensures, (c.write-in-Enrolment-2.ensures, (c.write-in-Enrolment-3.ensures, (c.write-in-Enrolment-4.ensures, tt)))))

pub returns-in-GateDay : goal.returns-in-GateDay
returns-in-GateDay c =
    of_case _ c.in-GateDay.is (c.joined_line-in-GateDay.ensures (take 4 (gate_contents c.in-GateDay.gate)) (c.write-in-GateDay.ensures, (c.write-in-GateDay-2.ensures, (c.write-in-GateDay-3.ensures, (c.write-in-GateDay-4.ensures, tt)))))

pub returns-in-IntervalEnergy : goal.returns-in-IntervalEnergy
returns-in-IntervalEnergy c =
    of_case _ c.in-IntervalEnergy.is (c.joined_line-in-IntervalEnergy.ensures (take 4 (interval_contents c.in-IntervalEnergy.interval)) (c.write-in-IntervalEnergy.ensures, (c.write-in-IntervalEnergy-2.ensures, (c.write-in-IntervalEnergy-3.ensures, (c.write-in-IntervalEnergy-4.ensures, tt)))))

pub returns-in-DegreeDays : goal.returns-in-DegreeDays
returns-in-DegreeDays c =
    of_case _ c.in-DegreeDays.is (c.joined_line-in-DegreeDays.ensures (take 4 (degree_contents c.in-DegreeDays.degrees)) (c.write-in-DegreeDays.ensures, (c.write-in-DegreeDays-2.ensures, (c.write-in-DegreeDays-3.ensures, (c.write-in-DegreeDays-4.ensures, tt)))))

pub returns-in-Reading : goal.returns-in-Reading
returns-in-Reading c =
    let small : SFits w64 c.in-Reading.reading.energy = search rules in
    let energy = subst (λ z. WritesField (content signed z) c.write-in-Reading-4.result) (to_z-of_z w64 c.in-Reading.reading.energy small) c.write-in-Reading-4.ensures in
    of_case _ c.in-Reading.is (c.joined_line-in-Reading.ensures (take 4 (reading_contents c.in-Reading.reading)) (c.write-in-Reading.ensures, (c.write-in-Reading-2.ensures, (c.write-in-Reading-3.ensures, (energy, tt)))))
