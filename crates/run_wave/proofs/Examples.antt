-- Lists of runs, and what they stand for, worked out on paper.
use Rattle.std.specs.Prelude.{◌≡◌, ℕ, zero, suc, ◌<◌, Bool, true, false, List, [], ◌∷◌, replicate, take}
use Rattle.std.proofs.Common.{refl, sym, arith}
use Rattle.run_wave.specs.declared.run.Run.{Run}
use Rattle.run_wave.specs.Run.{cells_of, IsRuns, EndsWith}
use Rattle.run_wave.specs.Mark.{marked_run, AreMarks}

abbrev run : Bool → ℕ → Run Bool
run cell width = record { cell = cell; width = width }

-- ---- what runs stand for

spelled_out : cells_of (run true 2 ∷ run false 1 ∷ run true 3 ∷ []) ≡ true ∷ true ∷ false ∷ true ∷ true ∷ true ∷ []
spelled_out = refl

nothing_in_no_runs : cells_of {T = Bool} [] ≡ []
nothing_in_no_runs = refl

-- ---- the runs of a wave: the last may have the cell of the first

first_and_last_are_equal : IsRuns (run true 2 ∷ run false 1 ∷ run true 3 ∷ [])
first_and_last_are_equal =
    (omega arith, ((λ same. unequal same), (omega arith, ((λ same. unequal (sym same)), (omega arith, (tt, tt))))))
  where
    unequal : true ≡ false → ⊥
    unequal same = cc

empty_run : ¬ IsRuns (run true 2 ∷ run false 0 ∷ [])
empty_run h =
    let some : 0 < 0 = h.1.1.0 in
    omega (arith, some)

equal_neighbours : ¬ IsRuns (run true 2 ∷ run true 1 ∷ [])
equal_neighbours h = h.1.0 refl

last_cell : EndsWith (run true 2 ∷ run false 1 ∷ []) false
last_cell = refl

not_the_last_cell : ¬ EndsWith (run true 2 ∷ run false 1 ∷ []) true
not_the_last_cell h =
    let clash : false ≡ true = h in
    cc

no_last_cell : ¬ EndsWith [] true
no_last_cell h = h

-- ---- marks: the first is of run 16

first_marked_run : marked_run 0 ≡ 16
first_marked_run = refl

abbrev seventeen : List (Run Bool)
seventeen = replicate 17 (run true 2)

slots_before_run_16 : AreMarks seventeen (32 ∷ [])
slots_before_run_16 zero below = (omega arith, refl)
slots_before_run_16 (suc i) below =
    let past : suc i < 1 = below in
    absurd (omega (arith, past))

slots_before_run_17 : ¬ AreMarks seventeen (34 ∷ [])
slots_before_run_17 marks =
    let clash : 34 ≡ 32 = (marks 0 (omega arith)).1 in
    omega (arith, clash)

mark_of_no_run : ¬ AreMarks (take 16 seventeen) (32 ∷ [])
mark_of_no_run marks =
    let there : 16 < 16 = (marks 0 (omega arith)).0 in
    omega (arith, there)

no_mark_is_needed : AreMarks seventeen []
no_mark_is_needed i below = absurd (omega (arith, below))
