-- What becomes of the cells of a list of runs when runs are put after it, widened, taken and left out.
use Rattle.std.proofs.Common.{◌≡◌, ℕ, zero, suc, ◌+◌, ◌-◌, ◌<◌, ◌≤◌, List, [], ◌∷◌, ◌++◌, length, get_or, take, drop, set, refl, sym, ap, ◌∙◌, arith, min}
use Rattle.std.specs.Prelude.{replicate}
use Rattle.std.specs.List.{sum_by}
use Rattle.std.proofs.lemmas.List.Sums.{sum_by-cons}
use Rattle.std.proofs.lemmas.List.{append_assoc, replicate-append-replicate, length-replicate, length-append, take_more, drop_more, take-append-drop, length-take, length-drop, drop-replicate, drop_all, append-nil}
use Rattle.run_wave.specs.declared.run.Run.{Run}
use Rattle.run_wave.specs.Run.{cells_of, BeginsWithout, IsRuns, EndsWith}

module _ {T : Type 0} where
  pub cells_of_append : (rs ss : List (Run T)) → cells_of (rs ++ ss) ≡ cells_of rs ++ cells_of ss
  cells_of_append [] ss = refl
  cells_of_append (r ∷ rs) ss =
      ap (λ (l : List T). replicate r.width r.cell ++ l) (cells_of_append rs ss) ∙ sym (append_assoc (replicate r.width r.cell) (cells_of rs) (cells_of ss))

  pub widths_sum : (rs : List (Run T)) → sum_by (λ (r : Run T). r.width) rs ≡ length (cells_of rs)
  widths_sum [] = refl
  widths_sum (r ∷ rs) =
      sum_by-cons (λ (s : Run T). s.width) r rs ∙ (λ i. r.width + widths_sum rs i)
      ∙ sym (length-append (replicate r.width r.cell) (cells_of rs) ∙ ap (λ (n : ℕ). n + length (cells_of rs)) (length-replicate r.width r.cell))

  pub cells_of_one : (r : Run T) → cells_of (r ∷ []) ≡ replicate r.width r.cell
  cells_of_one r = append-nil (replicate r.width r.cell)

  -- one run more
  pub cells_of_push : (rs : List (Run T)) (r : Run T) → cells_of (rs ++ r ∷ []) ≡ cells_of rs ++ replicate r.width r.cell
  cells_of_push rs r = cells_of_append rs (r ∷ []) ∙ ap (λ (l : List T). cells_of rs ++ l) (cells_of_one r)

  -- one run more of a list
  pub cells_of_more : (rs : List (Run T)) (i : ℕ) (r : Run T) → i < length rs → r ≡ get_or rs i r →
      cells_of (take (i + 1) rs) ≡ cells_of (take i rs) ++ replicate r.width r.cell
  cells_of_more rs i r below is =
      ap cells_of (take_more rs i r below ∙ ap (λ (s : Run T). take i rs ++ s ∷ []) (sym is)) ∙ cells_of_push (take i rs) r

  pub cells_of_ahead : (rs : List (Run T)) (i : ℕ) (r : Run T) → i < length rs → r ≡ get_or rs i r →
      cells_of (drop i rs) ≡ replicate r.width r.cell ++ cells_of (drop (i + 1) rs)
  cells_of_ahead rs i r below is =
      ap cells_of (drop_more rs i r below ∙ ap (λ (s : Run T). s ∷ drop (i + 1) rs) (sym is))

  pub cells_of_parts : (rs : List (Run T)) (i : ℕ) → cells_of rs ≡ cells_of (take i rs) ++ cells_of (drop i rs)
  cells_of_parts rs i = ap cells_of (sym (take-append-drop i rs)) ∙ cells_of_append (take i rs) (drop i rs)

  -- how many slots there are
  pub length_cells_of_more : (rs : List (Run T)) (i : ℕ) (r : Run T) → i < length rs → r ≡ get_or rs i r →
      length (cells_of (take (i + 1) rs)) ≡ length (cells_of (take i rs)) + r.width
  length_cells_of_more rs i r below is =
      ap length (cells_of_more rs i r below is) ∙ length-append (cells_of (take i rs)) (replicate r.width r.cell)
      ∙ ap (λ (n : ℕ). length (cells_of (take i rs)) + n) (length-replicate r.width r.cell)

  pub length_cells_of_take : (rs : List (Run T)) (i : ℕ) → length (cells_of (take i rs)) ≤ length (cells_of rs)
  length_cells_of_take rs i =
      let e : length (cells_of rs) ≡ length (cells_of (take i rs)) + length (cells_of (drop i rs)) =
      ap length (cells_of_parts rs i) ∙ length-append (cells_of (take i rs)) (cells_of (drop i rs)) in
      omega (arith, e)

  -- ---- as many runs as slots

  length_cells_of_next : (r : Run T) (rs : List (Run T)) → length (cells_of (r ∷ rs)) ≡ r.width + length (cells_of rs)
  length_cells_of_next r rs =
      length-append (replicate r.width r.cell) (cells_of rs) ∙ ap (λ (n : ℕ). n + length (cells_of rs)) (length-replicate r.width r.cell)

  runs_within : (rs : List (Run T)) → IsRuns rs → length rs ≤ length (cells_of rs)
  runs_within [] h = omega arith
  runs_within (r ∷ rs) h =
      let rest = runs_within rs h.1.1 in
      let some : 0 < r.width = h.0 in
      let long = length_cells_of_next r rs in
      omega (arith, rest, some, long)

  -- each of them has one slot then
  pub single_slots : (rs : List (Run T)) (i : ℕ) → IsRuns rs → length rs ≡ length (cells_of rs) → i ≤ length rs →
      length (cells_of (take i rs)) ≡ i
  single_slots [] zero h e within = refl
  single_slots [] (suc i) h e within = absurd (omega (arith, within))
  single_slots (r ∷ rs) zero h e within = refl
  single_slots (r ∷ rs) (suc i) h e within =
      let rest = runs_within rs h.1.1 in
      let some : 0 < r.width = h.0 in
      let long = length_cells_of_next r rs in
      let one : r.width ≡ 1 = omega (arith, rest, some, long, e) in
      let tail : length rs ≡ length (cells_of rs) = omega (arith, rest, some, long, e) in
      let before = single_slots rs i h.1.1 tail (omega (arith, within)) in
      let front = length_cells_of_next r (take i rs) in
      omega (arith, one, before, front)

  -- ---- a run that is pushed, as a run of its own or as part of the last

  pub ends_some : (rs : List (Run T)) (c : T) → EndsWith rs c → 0 < length rs
  ends_some [] c h = absurd h
  ends_some (r ∷ rs) c h = omega arith

  pub last_ends : (rs : List (Run T)) (i : ℕ) (r : Run T) (c : T) → i + 1 ≡ length rs → r ≡ get_or rs i r → r.cell ≡ c → EndsWith rs c
  last_ends [] i r c e is h = absurd (omega arith)
  last_ends (s ∷ []) zero r c e is h = ap (λ (z : Run T). z.cell) (sym is) ∙ h
  last_ends (s ∷ []) (suc i) r c e is h = absurd (omega arith)
  last_ends (s ∷ t ∷ rs) zero r c e is h = absurd (omega arith)
  last_ends (s ∷ t ∷ rs) (suc i) r c e is h = last_ends (t ∷ rs) i r c (omega arith) is h

  pub ends_last : (rs : List (Run T)) (i : ℕ) (r : Run T) (c : T) → i + 1 ≡ length rs → r ≡ get_or rs i r → EndsWith rs c → r.cell ≡ c
  ends_last [] i r c e is h = absurd (omega arith)
  ends_last (s ∷ []) zero r c e is h = ap (λ (z : Run T). z.cell) is ∙ h
  ends_last (s ∷ []) (suc i) r c e is h = absurd (omega arith)
  ends_last (s ∷ t ∷ rs) zero r c e is h = absurd (omega arith)
  ends_last (s ∷ t ∷ rs) (suc i) r c e is h = ends_last (t ∷ rs) i r c (omega arith) is h

  -- the run, so many slots wider
  abbrev pub wider : Run T → ℕ → Run T
  wider r w = record { cell = r.cell; width = r.width + w }

  pub cells_of_wider : (rs : List (Run T)) (i w : ℕ) (r : Run T) → i + 1 ≡ length rs → r ≡ get_or rs i r →
      cells_of (set rs i (wider r w)) ≡ cells_of rs ++ replicate w r.cell
  cells_of_wider [] i w r e is = absurd (omega arith)
  cells_of_wider (s ∷ []) zero w r e is =
      cells_of_one (wider r w) ∙ sym (replicate-append-replicate r.width w r.cell)
      ∙ ap (λ (l : List T). l ++ replicate w r.cell) (sym (cells_of_one r) ∙ ap (λ (z : Run T). cells_of (z ∷ [])) is)
  cells_of_wider (s ∷ []) (suc i) w r e is = absurd (omega arith)
  cells_of_wider (s ∷ t ∷ rs) zero w r e is = absurd (omega arith)
  cells_of_wider (s ∷ t ∷ rs) (suc i) w r e is =
      ap (λ (l : List T). replicate s.width s.cell ++ l) (cells_of_wider (t ∷ rs) i w r (omega arith) is)
      ∙ sym (append_assoc (replicate s.width s.cell) (cells_of (t ∷ rs)) (replicate w r.cell))

  begins_wider : (c : T) (rs : List (Run T)) (i w : ℕ) (r : Run T) → r ≡ get_or rs i r → BeginsWithout c rs → BeginsWithout c (set rs i (wider r w))
  begins_wider c [] i w r is h = h
  begins_wider c (s ∷ rs) zero w r is h = λ e. h (e ∙ ap (λ (z : Run T). z.cell) is)
  begins_wider c (s ∷ rs) (suc i) w r is h = h

  pub IsRuns_wider : (rs : List (Run T)) (i w : ℕ) (r : Run T) → i + 1 ≡ length rs → r ≡ get_or rs i r → IsRuns rs → IsRuns (set rs i (wider r w))
  IsRuns_wider [] i w r e is h = h
  IsRuns_wider (s ∷ []) zero w r e is h =
      let same : r.width ≡ s.width = ap (λ (z : Run T). z.width) is in
      let some : 0 < s.width = h.0 in
      (omega (arith, same, some), (tt, tt))
  IsRuns_wider (s ∷ []) (suc i) w r e is h = absurd (omega arith)
  IsRuns_wider (s ∷ t ∷ rs) zero w r e is h = absurd (omega arith)
  IsRuns_wider (s ∷ t ∷ rs) (suc i) w r e is h =
      (h.0, (begins_wider s.cell (t ∷ rs) i w r is h.1.0, IsRuns_wider (t ∷ rs) i w r (omega arith) is h.1.1))

  pub IsRuns_push : (rs : List (Run T)) (r : Run T) → 0 < r.width → (EndsWith rs r.cell → ⊥) → IsRuns rs → IsRuns (rs ++ r ∷ [])
  IsRuns_push [] r some other h = (some, (tt, tt))
  IsRuns_push (s ∷ []) r some other h = (h.0, (other, (some, (tt, tt))))
  IsRuns_push (s ∷ t ∷ rs) r some other h = (h.0, (h.1.0, IsRuns_push (t ∷ rs) r some other h.1.1))

  -- ---- what is left of a list when a run is left out or taken with it

  drop_append : (n : ℕ) (xs ys : List T) → drop n (xs ++ ys) ≡ drop n xs ++ drop (n - length xs) ys
  drop_append zero [] ys = refl
  drop_append (suc n) [] ys = let e : suc n ≡ suc n - 0 = omega arith in ap (λ (m : ℕ). drop m ys) e
  drop_append zero (x ∷ xs) ys = let e : 0 ≡ 0 - length (x ∷ xs) = omega arith in ap (λ (m : ℕ). x ∷ xs ++ drop m ys) e
  drop_append (suc n) (x ∷ xs) ys =
      drop_append n xs ys ∙ (let e : n - length xs ≡ suc n - length (x ∷ xs) = omega arith in ap (λ (m : ℕ). drop n xs ++ drop m ys) e)

  take_append : (n : ℕ) (xs ys : List T) → take n (xs ++ ys) ≡ take n xs ++ take (n - length xs) ys
  take_append zero [] ys = refl
  take_append (suc n) [] ys = let e : suc n ≡ suc n - 0 = omega arith in ap (λ (m : ℕ). take m ys) e
  take_append zero (x ∷ xs) ys = let e : 0 ≡ 0 - length (x ∷ xs) = omega arith in ap (λ (m : ℕ). take m ys) e
  take_append (suc n) (x ∷ xs) ys =
      ap (λ (l : List T). x ∷ l) (take_append n xs ys ∙ (let e : n - length xs ≡ suc n - length (x ∷ xs) = omega arith in ap (λ (m : ℕ). take n xs ++ take m ys) e))

  take_replicate_min : (n w : ℕ) (c : T) → take n (replicate w c) ≡ replicate (min n w) c
  take_replicate_min zero w c = let e : 0 ≡ min 0 w = omega arith in ap (λ (m : ℕ). replicate m c) e
  take_replicate_min (suc n) zero c = let e : 0 ≡ min (suc n) 0 = omega arith in ap (λ (m : ℕ). replicate m c) e
  take_replicate_min (suc n) (suc w) c =
      ap (λ (l : List T). c ∷ l) (take_replicate_min n w c) ∙ (let e : suc (min n w) ≡ min (suc n) (suc w) = omega arith in ap (λ (m : ℕ). replicate m c) e)

  drop_run : (n w : ℕ) (c : T) (xs : List T) → n ≤ w → drop n (replicate w c ++ xs) ≡ replicate (w - n) c ++ xs
  drop_run zero w c xs within = let e : w ≡ w - 0 = omega arith in ap (λ (m : ℕ). replicate m c ++ xs) e
  drop_run (suc n) zero c xs within = absurd (omega (arith, within))
  drop_run (suc n) (suc w) c xs within =
      let e : w - n ≡ suc w - suc n = omega arith in
      drop_run n w c xs (omega (arith, within)) ∙ ap (λ (m : ℕ). replicate m c ++ xs) e

  -- the slots from one in run i on: what is left of the run, and the runs after it
  pub from_run : (rs : List (Run T)) (i slot end : ℕ) (r : Run T) → i < length rs → r ≡ get_or rs i r → length (cells_of (take i rs)) ≤ slot →
      slot < end → end ≡ length (cells_of (take (i + 1) rs)) →
      replicate (end - slot) r.cell ++ cells_of (drop (i + 1) rs) ≡ drop slot (cells_of rs)
  from_run rs i slot end r below is begun behind last =
      let more = length_cells_of_more rs i r below is in
      let left : r.width - (slot - length (cells_of (take i rs))) ≡ end - slot = omega (arith, more, begun, behind, last) in
      sym
      (ap (drop slot) (cells_of_parts rs i)
      ∙ drop_append slot (cells_of (take i rs)) (cells_of (drop i rs))
      ∙ ap (λ (l : List T). l ++ drop (slot - length (cells_of (take i rs))) (cells_of (drop i rs))) (drop_all slot (cells_of (take i rs)) begun)
      ∙ ap (drop (slot - length (cells_of (take i rs)))) (cells_of_ahead rs i r below is)
      ∙ drop_run (slot - length (cells_of (take i rs))) r.width r.cell (cells_of (drop (i + 1) rs)) (omega (arith, more, begun, behind, last))
      ∙ ap (λ (m : ℕ). replicate m r.cell ++ cells_of (drop (i + 1) rs)) left)

  -- the slots from `start` on, with one run more
  pub dropped_more : (rs : List (Run T)) (i start left : ℕ) (r : Run T) → i < length rs → r ≡ get_or rs i r →
      left ≡ start - length (cells_of (take i rs)) →
      drop start (cells_of (take (i + 1) rs)) ≡ drop start (cells_of (take i rs)) ++ replicate (r.width - min left r.width) r.cell
  dropped_more rs i start left r below is e =
      ap (drop start) (cells_of_more rs i r below is)
      ∙ drop_append start (cells_of (take i rs)) (replicate r.width r.cell)
      ∙ ap (λ (l : List T). drop start (cells_of (take i rs)) ++ l)
      (drop-replicate (start - length (cells_of (take i rs))) r.width r.cell
      ∙ ap (λ (m : ℕ). replicate m r.cell) (omega (arith, e)))

  -- the slots up to `end`, with one run more
  pub taken_more : (rs : List (Run T)) (i end left : ℕ) (r : Run T) → i < length rs → r ≡ get_or rs i r →
      left ≡ end - length (cells_of (take i rs)) →
      take end (cells_of (take (i + 1) rs)) ≡ take end (cells_of (take i rs)) ++ replicate (min left r.width) r.cell
  taken_more rs i end left r below is e =
      ap (take end) (cells_of_more rs i r below is)
      ∙ take_append end (cells_of (take i rs)) (replicate r.width r.cell)
      ∙ ap (λ (l : List T). take end (cells_of (take i rs)) ++ l)
      (take_replicate_min (end - length (cells_of (take i rs))) r.width r.cell
      ∙ ap (λ (m : ℕ). replicate (min m r.width) r.cell) (sym e))

  -- ---- one run of a list

  pub width_within : (rs : List (Run T)) (i : ℕ) (r : Run T) → i < length rs → r ≡ get_or rs i r → r.width ≤ length (cells_of rs)
  width_within rs i r below is =
      let more = length_cells_of_more rs i r below is in
      let all = length_cells_of_take rs (i + 1) in
      omega (arith, more, all)

  -- how far a loop over the runs has come
  pub slots_within : (rs : List (Run T)) (i : ℕ) (r : Run T) → i < length rs → r ≡ get_or rs i r →
      length (cells_of (take i rs)) + r.width ≤ length (cells_of rs)
  slots_within rs i r below is =
      let more = length_cells_of_more rs i r below is in
      let all = length_cells_of_take rs (i + 1) in
      omega (arith, more, all)

  pub some_width : (rs : List (Run T)) (i : ℕ) (r : Run T) → i < length rs → r ≡ get_or rs i r → IsRuns rs → 0 < r.width
  some_width [] i r below is h = absurd (omega arith)
  some_width (s ∷ rs) zero r below is h = let e : r.width ≡ s.width = ap (λ (z : Run T). z.width) is in let some : 0 < s.width = h.0 in omega (arith, e, some)
  some_width (s ∷ rs) (suc i) r below is h = some_width rs i r (omega arith) is h.1.1

  pub length_pushed : (xs ys : List T) (w : ℕ) (c : T) → ys ≡ xs ++ replicate w c → length ys ≡ length xs + w
  length_pushed xs ys w c e =
      ap length e ∙ length-append xs (replicate w c) ∙ ap (λ (n : ℕ). length xs + n) (length-replicate w c)

  pub replicate_parts : (w v : ℕ) (c : T) (xs : List T) → v ≤ w → replicate w c ++ xs ≡ replicate v c ++ (replicate (w - v) c ++ xs)
  replicate_parts w v c xs within =
      let e : w ≡ v + (w - v) = omega arith in
      ap (λ (n : ℕ). replicate n c ++ xs) e
      ∙ ap (λ (l : List T). l ++ xs) (sym (replicate-append-replicate v (w - v) c))
      ∙ append_assoc (replicate v c) (replicate (w - v) c) xs

  pub length_next : (xs ys : List T) (w : ℕ) (c : T) → xs ≡ replicate w c ++ ys → length xs ≡ w + length ys
  length_next xs ys w c e =
      ap length e ∙ length-append (replicate w c) ys ∙ ap (λ (n : ℕ). n + length ys) (length-replicate w c)

  -- the slots of the first run are among them
  pub first_within : (r : Run T) (rs : List (Run T)) → r.width ≤ length (cells_of (r ∷ rs))
  first_within r rs = let long = length_next (cells_of (r ∷ rs)) (cells_of rs) r.width r.cell refl in omega (arith, long)

  -- ---- a step of the loops that put a part of a list after another

  pub pushed_dropped : (old now next : List T) (rs : List (Run T)) (i start left part : ℕ) (r : Run T) → i < length rs → r ≡ get_or rs i r →
      left ≡ start - length (cells_of (take i rs)) → part ≡ min left r.width → now ≡ old ++ drop start (cells_of (take i rs)) →
      next ≡ now ++ replicate (r.width - part) r.cell → next ≡ old ++ drop start (cells_of (take (i + 1) rs))
  pushed_dropped old now next rs i start left part r below is e cut so_far pushed =
      pushed ∙ ap (λ (l : List T). l ++ replicate (r.width - part) r.cell) so_far
      ∙ append_assoc old (drop start (cells_of (take i rs))) (replicate (r.width - part) r.cell)
      ∙ ap (λ (l : List T). old ++ l)
      (ap (λ (p : ℕ). drop start (cells_of (take i rs)) ++ replicate (r.width - p) r.cell) cut ∙ sym (dropped_more rs i start left r below is e))

  pub pushed_taken : (old now next : List T) (rs : List (Run T)) (i end left part : ℕ) (r : Run T) → i < length rs → r ≡ get_or rs i r →
      left ≡ end - length (cells_of (take i rs)) → part ≡ min left r.width → now ≡ old ++ take end (cells_of (take i rs)) →
      next ≡ now ++ replicate part r.cell → next ≡ old ++ take end (cells_of (take (i + 1) rs))
  pushed_taken old now next rs i end left part r below is e cut so_far pushed =
      pushed ∙ ap (λ (l : List T). l ++ replicate part r.cell) so_far
      ∙ append_assoc old (take end (cells_of (take i rs))) (replicate part r.cell)
      ∙ ap (λ (l : List T). old ++ l)
      (ap (λ (p : ℕ). take end (cells_of (take i rs)) ++ replicate p r.cell) cut ∙ sym (taken_more rs i end left r below is e))

  pub length_with_dropped : (old now xs : List T) (start : ℕ) → now ≡ old ++ drop start xs → length now ≡ length old + (length xs - start)
  length_with_dropped old now xs start e =
      ap length e ∙ length-append old (drop start xs) ∙ ap (λ (n : ℕ). length old + n) (length-drop start xs)

  pub length_with_taken : (old now xs : List T) (end : ℕ) → now ≡ old ++ take end xs → length now ≡ length old + min end (length xs)
  length_with_taken old now xs end e =
      ap length e ∙ length-append old (take end xs) ∙ ap (λ (n : ℕ). length old + n) (length-take end xs)

-- a list whose first run is not empty while there are slots has none if that run is empty
pub none_left : (slots width : ℕ) → (0 < slots → 0 < width) → width ≤ 0 → slots ≡ 0
none_left zero width some none = refl
none_left (suc slots) width some none = let first : 0 < width = some (omega arith) in absurd (omega arith)
