-- A table all of whose entries pass a test: what is read from it passes, and what passes can be written to it.
use Rattle.std.proofs.Common.{ℕ, zero, suc, ◌-◌, Bool, true, false, ◌&&◌, leb, T, List, [], ◌∷◌, Some, None, Option, get_or, set}
use Rattle.std.specs.List.{list_all}
use Rattle.std.specs.Option.{option_map_or}
use Rattle.std.proofs.lemmas.Bool.{cond_both}
use Rattle.estimators.specs.Entries.{entry_numbered, entries_pass}

pub both : (a b : Bool) → T a → T b → T (a && b)
both true b ta tb = tb
both false b ta tb = ta

-- the parts of a test that passes
pub first : (a b : Bool) → T (a && b) → T a
first true b t = tt
first false b t = t

pub second : (a b : Bool) → T (a && b) → T b
second true b t = t
second false b t = absurd t

module _ {X : Type 0} (p : X → Bool) where
  -- past the end the default is read, which passes too
  pub read_passes : (xs : List X) (i : ℕ) (d : X) → T (p d) → T (list_all p xs) → T (p (get_or xs i d))
  read_passes [] i d h t = h
  read_passes (x ∷ xs) zero d h t = first _ _ t
  read_passes (x ∷ xs) (suc i) d h t = read_passes xs i d h (second _ _ t)

  pub written_passes : (xs : List X) (i : ℕ) (y : X) → T (p y) → T (list_all p xs) → T (list_all p (set xs i y))
  written_passes [] i y h t = t
  written_passes (x ∷ xs) zero y h t = both _ _ h (second _ _ t)
  written_passes (x ∷ xs) (suc i) y h t = both _ _ (first _ _ t) (written_passes xs i y h (second _ _ t))

-- the same of entries: each that is read passes, and one that passes can be entered
module _ {X : Type 0} (test : X → Bool) where
  pub entry_passes : (last : ℕ) (table : List (Option X)) (number : ℕ) → T (entries_pass test table) → T (option_map_or test (entry_numbered last table number) true)
  entry_passes last table number t =
      cond_both (leb 1 number && leb number last) (get_or table (number - 1) None) None (λ entry. T (option_map_or test entry true))
      (λ _. read_passes (λ entry. option_map_or test entry true) table (number - 1) None tt t) (λ _. tt)

  pub entered_passes : (table : List (Option X)) (i : ℕ) (x : X) → T (test x) → T (entries_pass test table) → T (entries_pass test (set table i (Some x)))
  entered_passes table i x h t = written_passes (λ entry. option_map_or test entry true) table i (Some x) h t
