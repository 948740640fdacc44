-- A gate day or an interval energy, whichever it is: it moves the load of its day, which lies in the book. Assumes nothing.
use Rattle.std.proofs.Common.{◌≡◌, ℕ, ◌<◌, ◌⊎◌, ◌∷◌, inl, inr}
use Rattle.rules.specs.History.{History, Setting}
use Rattle.rules.specs.declared.entry.Entry.{Entry}
use Rattle.rules.specs.declared.entry.Entry.TheVariants.{GateEntered, IntervalEntered}
use Rattle.rules.specs.declared.entry.GateDay.{GateDay}
use Rattle.rules.specs.Calls.{IsLawful}
use Rattle.rules.proofs.AcceptedEntries.{entry_in}
use Rattle.rules.proofs.MovedDays.{gate_moved, interval_moved}
use Rattle.rules.specs.FigureLaws.{DiffersInLoad}

pub load_entry_moved : (s : Setting) (h : History) (e : Entry) (day : ℕ) → ((gate : GateDay) × e ≡ GateEntered day gate) ⊎ ((meter : ℕ) × (energy : ℕ) × e ≡ IntervalEntered day meter energy) → IsLawful s (e ∷ h) → DiffersInLoad s h (e ∷ h) day × day < s.days
load_entry_moved s h e day (inl gate) = rw gate.1 (λ lawful. (gate_moved s h day gate.0 lawful, entry_in s h (GateEntered day gate.0) lawful))
load_entry_moved s h e day (inr interval) = rw interval.2 (λ lawful. (interval_moved s h day interval.0 interval.1 lawful, entry_in s h (IntervalEntered day interval.0 interval.1) lawful))
