-- Marks in a list of runs: what is put after the list leaves them as they are, and where a search for a slot begins.
use Rattle.std.proofs.Common.{◌≡◌, ℕ, zero, suc, ◌+◌, ◌-◌, ◌<◌, ◌≤◌, ◌⊎◌, inl, inr, Bool, true, false, if◌then◌else◌, List, [], ◌∷◌, ◌++◌, length, get_or, take, set, refl, sym, ap, ◌∙◌, arith, subst}
use Rattle.std.specs.Prelude.{slice_get}
use Rattle.std.specs.List.Sorted.{IsNonDecreasingBy}
use Rattle.std.proofs.lemmas.Bool.{cases_lt}
use Rattle.std.proofs.lemmas.List.{length-append, take-append-le, take_at, take-set-le, get_or-append_right, length-set}
use Rattle.std.proofs.lemmas.List.Sorted.{IsNonDecreasingBy-from_default}
use Rattle.run_wave.specs.declared.run.Run.{Run}
use Rattle.run_wave.specs.Run.{cells_of}
use Rattle.run_wave.specs.Mark.{AreMarks, marked_run}
use Rattle.run_wave.proofs.Runs.{length_next}
use Rattle.run_wave.proofs.Turned.{get_or_append_left}

module _ {T : Type 0} where
  -- more of the runs have no fewer slots
  slots_grow : (i j : ℕ) (rs : List (Run T)) → i ≤ j → length (cells_of (take i rs)) ≤ length (cells_of (take j rs))
  slots_grow zero j rs within = let none : length (cells_of (take 0 rs)) ≡ 0 = refl in omega (arith, none)
  slots_grow (suc i) zero rs within = absurd (omega arith)
  slots_grow (suc i) (suc j) [] within = omega arith
  slots_grow (suc i) (suc j) (r ∷ rs) within =
      let fewer = length_next (cells_of (take (suc i) (r ∷ rs))) (cells_of (take i rs)) r.width r.cell refl in
      let more = length_next (cells_of (take (suc j) (r ∷ rs))) (cells_of (take j rs)) r.width r.cell refl in
      let rest = slots_grow i j rs (omega arith) in
      omega (arith, fewer, more, rest)

  pub marks_rise : (rs : List (Run T)) (marks : List ℕ) → AreMarks rs marks → IsNonDecreasingBy (λ x. x) marks
  marks_rise rs marks h =
      IsNonDecreasingBy-from_default (λ x. x) marks 0
      (λ i j order below.
      let low = (h i (omega arith)).1 in
      let high = (h j below).1 in
      let grow = slots_grow (marked_run i) (marked_run j) rs (omega arith) in
      omega (arith, low, high, grow))

  -- ---- one run more, one that is wider, and one mark more

  pub marks_push : (rs : List (Run T)) (r : Run T) (marks : List ℕ) → AreMarks rs marks → AreMarks (rs ++ r ∷ []) marks
  marks_push rs r marks h i below =
      let old = h i below in
      let long = length-append rs (r ∷ []) in
      let one : length (r ∷ []) ≡ 1 = refl in
      let there = old.0 in (
        omega (arith, long, one, there),
        old.1 ∙ ap (λ (l : List (Run T)). length (cells_of l)) (sym (take-append-le (marked_run i) rs (r ∷ []) (omega (arith, there)))),
      )

  pub marks_set : (rs : List (Run T)) (last : ℕ) (r : Run T) (marks : List ℕ) → last + 1 ≡ length rs → AreMarks rs marks → AreMarks (set rs last r) marks
  marks_set rs last r marks is_last h i below =
      let old = h i below in
      let long = length-set rs last r in
      let there = old.0 in (
        omega (arith, long, there),
        old.1 ∙ ap (λ (l : List (Run T)). length (cells_of l)) (sym (take-set-le (marked_run i) rs last r (omega (arith, there, is_last)))),
      )

  -- the run after the others is marked
  pub marks_mark : (rs : List (Run T)) (r : Run T) (marks : List ℕ) (begin : ℕ) → marked_run (length marks) ≡ length rs → begin ≡ length (cells_of rs) →
      AreMarks rs marks → AreMarks (rs ++ r ∷ []) (marks ++ begin ∷ [])
  marks_mark rs r marks begin turn is h i below = go (cases_lt i (length marks))
    where
      long : length (marks ++ begin ∷ []) ≡ length marks + 1
      long = length-append marks (begin ∷ [])

      go : (i < length marks) ⊎ (length marks ≤ i) →
          (marked_run i < length (rs ++ r ∷ [])) × (get_or (marks ++ begin ∷ []) i 0 ≡ length (cells_of (take (marked_run i) (rs ++ r ∷ []))))
      go (inl before) =
          let old = marks_push rs r marks h i before in
          (old.0, get_or_append_left marks (begin ∷ []) i 0 before ∙ old.1)
      go (inr after) =
          let last : i ≡ length marks = omega (arith, long) in
          let more = length-append rs (r ∷ []) in
          let one : length (r ∷ []) ≡ 1 = refl in
          let whole : length rs ≡ marked_run i = omega (arith, last, turn) in
          let first : i - length marks ≡ 0 = omega (arith, last) in (
            omega (arith, more, one, whole),
            get_or-append_right marks (begin ∷ []) (length marks) i 0 refl after ∙ ap (λ (n : ℕ). get_or (begin ∷ []) n 0) first ∙ is
                ∙ ap (λ (l : List (Run T)). length (cells_of l)) (sym (take_at rs (r ∷ []) (marked_run i) whole)),
          )

  -- the mark of the run that was pushed, if there was memory for it
  pub marks_pushed : (rs : List (Run T)) (r : Run T) (rs' : List (Run T)) (marks marks' : List ℕ) (begin : ℕ) (room : Bool) → rs' ≡ rs ++ r ∷ [] →
      marked_run (length marks) ≡ length rs → begin ≡ length (cells_of rs) → marks' ≡ (if room then marks ++ begin ∷ [] else marks) →
      AreMarks rs marks → AreMarks rs' marks'
  marks_pushed rs r rs' marks marks' begin true e turn is e' h =
      subst (λ (l : List (Run T)). AreMarks l marks') (sym e) (subst (λ (ms : List ℕ). AreMarks (rs ++ r ∷ []) ms) (sym e') (marks_mark rs r marks begin turn is h))
  marks_pushed rs r rs' marks marks' begin false e turn is e' h =
      subst (λ (l : List (Run T)). AreMarks l marks') (sym e) (subst (λ (ms : List ℕ). AreMarks (rs ++ r ∷ []) ms) (sym e') (marks_push rs r marks h))

  -- ---- where a search begins

  pub slice_get_behind : (xs ys : List T) (n : ℕ) → length xs ≤ n → slice_get (xs ++ ys) n ≡ slice_get ys (n - length xs)
  slice_get_behind [] ys n within = let whole : n ≡ n - 0 = omega arith in ap (slice_get ys) whole
  slice_get_behind (x ∷ xs) ys zero within = absurd (omega arith)
  slice_get_behind (x ∷ xs) ys (suc n) within =
      let same : n - length xs ≡ suc n - length (x ∷ xs) = omega arith in
      slice_get_behind xs ys n (omega arith) ∙ ap (slice_get ys) same
