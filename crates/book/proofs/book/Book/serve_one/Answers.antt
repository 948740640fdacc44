use Rattle.std.proofs.Common.{refl, rules}
use Rattle.rules.specs.declared.call.Call.TheVariants.{AskDay, AskFigure, AskRetailer, EnterDegreeDays}
use Rattle.book.proofs.Calls.{entry_served}
use Rattle.book.proofs.Questions.{question_served}
use Rattle.book.proofs.book.Book.serve_one.Goals as goal

pub returns-in-Enrol-clause-law : goal.returns-in-Enrol-clause-law
returns-in-Enrol-clause-law g c = rw c.in-Enrol.is (entry_served _ _ c.enrol.ensures.law (λ x y given. search rules) c.map.ensures.cases)

pub returns-in-EnterGate-clause-law : goal.returns-in-EnterGate-clause-law
returns-in-EnterGate-clause-law g c = rw c.in-EnterGate.is (entry_served _ _ c.enter_gate.ensures.law (λ x y given. search rules) c.map-in-EnterGate.ensures.cases)

pub returns-in-EnterInterval-clause-law : goal.returns-in-EnterInterval-clause-law
returns-in-EnterInterval-clause-law g c = rw c.in-EnterInterval.is (entry_served _ _ c.enter_interval.ensures.law (λ x y given. search rules) c.map-in-EnterInterval.ensures.cases)

-- the entry is found by `search` and not named, so that where another is called it is the fact that lacks
pub returns-in-EnterDegreeDays-clause-law : goal.returns-in-EnterDegreeDays-clause-law
returns-in-EnterDegreeDays-clause-law g c =
    rw c.in-EnterDegreeDays.is
    (entry_served {call = EnterDegreeDays c.in-EnterDegreeDays.date c.in-EnterDegreeDays.count} _ _ (search rules) (λ x y given. search rules) c.map-in-EnterDegreeDays.ensures.cases)

pub returns-in-EnterReading-clause-law : goal.returns-in-EnterReading-clause-law
returns-in-EnterReading-clause-law g c = rw c.in-EnterReading.is (entry_served _ _ c.enter_reading.ensures.law (λ x y given. search rules) c.map-in-EnterReading.ensures.cases)

pub returns-in-AskFigure-clause-law : goal.returns-in-AskFigure-clause-law
returns-in-AskFigure-clause-law g c =
    rw c.in-AskFigure.is
    (question_served {call = AskFigure c.in-AskFigure.point c.in-AskFigure.date} _ (c.ask_figure.ensures _) (λ c. refl) (λ x y given. search rules) c.map-in-AskFigure.ensures.cases)

pub returns-in-AskDay-clause-law : goal.returns-in-AskDay-clause-law
returns-in-AskDay-clause-law g c =
    rw c.in-AskDay.is (question_served {call = AskDay c.in-AskDay.date} _ c.ask_day.ensures (λ c. refl) (λ x y given. search rules) c.map-in-AskDay.ensures.cases)

pub returns-in-AskRetailer-clause-law : goal.returns-in-AskRetailer-clause-law
returns-in-AskRetailer-clause-law g c =
    rw c.in-AskRetailer.is
    (question_served {call = AskRetailer c.in-AskRetailer.retailer c.in-AskRetailer.date} _ (c.ask_retailer.ensures _) (λ c. refl) (λ x y given. search rules) c.map-in-AskRetailer.ensures.cases)
