-- Rows below one another, one more.
use Rattle.std.proofs.Common.{◌≡◌, ℕ, zero, suc, ◌+◌, ◌<◌, ◌≤◌, List, [], ◌∷◌, ◌++◌, length, get_or, take, append_assoc, append-nil, refl, arith, ap, ap₂, sym, ◌∙◌}
use Rattle.std.specs.List.{zip}
use Rattle.std.proofs.lemmas.List.{length-take-le, take_all, take_more}
use Rattle.step_values.specs.declared.value.Value.{Value}
use Rattle.skew_algebra.specs.Wave.{Wave}
use Rattle.draw_report.specs.declared.mark.Layout.{Layout}
use Rattle.draw_report.specs.declared.mark.Mark.{Mark}
use Rattle.draw_report.specs.declared.paper.Paper.{Paper}
use Rattle.draw_report.specs.declared.view.View.{View}
use Rattle.draw_report.specs.Element.{Node, all_written}
use Rattle.draw_report.specs.Paper.{Adds}
use Rattle.draw_report.specs.Picture.{row_group, row_groups}
use Rattle.draw_report.proofs.Texts.{adds_same, nodes_append, adds_two}

zip_long : {X Y : Type 0} (xs : List X) (ys : List Y) → length xs ≡ length ys →
    length (zip xs ys) ≡ length ys
zip_long [] [] same = refl
zip_long [] (y ∷ ys) same = absurd (omega (arith, same))
zip_long (x ∷ xs) [] same = absurd (omega (arith, same))
zip_long (x ∷ xs) (y ∷ ys) same = ap suc (zip_long xs ys (omega (arith, same)))

zip_at : {X Y : Type 0} (xs : List X) (ys : List Y) (i : ℕ) (x : X) (y : Y) → i < length xs →
    i < length ys → get_or (zip xs ys) i (x, y) ≡ (get_or xs i x, get_or ys i y)
zip_at [] ys i x y within also = absurd (omega (arith, within))
zip_at (a ∷ xs) [] i x y within also = absurd (omega (arith, also))
zip_at (a ∷ xs) (b ∷ ys) zero x y within also = refl
zip_at (a ∷ xs) (b ∷ ys) (suc i) x y within also =
    zip_at xs ys i x y (omega (arith, within)) (omega (arith, also))

module _ (v : View) (l : Layout) (marks : List Mark) where
  apart : (place : ℕ) (a b : List (List ℕ × Wave Value)) →
      row_groups v l marks place (a ++ b)
      ≡ row_groups v l marks place a ++ row_groups v l marks (place + length a) b
  apart place [] b =
      let here : place ≡ place + 0 = omega arith in
      ap (λ (n : ℕ). row_groups v l marks n b) here
  apart place (r ∷ a) b =
      let there : place + 1 + length a ≡ place + suc (length a) = omega arith in
      ap (λ (ns : List Node). row_group v l marks place r.0 r.1 ++ ns) (apart (place + 1) a b)
      ∙ sym (append_assoc (row_group v l marks place r.0 r.1) (row_groups v l marks (place + 1) a)
      (row_groups v l marks (place + 1 + length a) b))
      ∙ ap (λ (n : ℕ). (row_group v l marks place r.0 r.1 ++ row_groups v l marks (place + 1) a)
      ++ row_groups v l marks n b) there

  next : (names : List (List ℕ)) (ws : List (Wave Value)) (i : ℕ) (name : List ℕ)
      (w : Wave Value) → length names ≡ length ws → i < length ws → name ≡ get_or names i name →
      w ≡ get_or ws i w →
      row_groups v l marks 0 (take (i + 1) (zip names ws))
      ≡ row_groups v l marks 0 (take i (zip names ws)) ++ row_group v l marks i name w
  next names ws i name w same within named is =
      let all = zip names ws in
      let long = zip_long names ws same in
      let inside : i < length all = omega (arith, long, within) in
      let front = length-take-le i all (omega (arith, inside)) in
      let here : 0 + length (take i all) ≡ i = omega (arith, front) in
      ap (row_groups v l marks 0) (take_more all i (name, w) inside)
      ∙ apart 0 (take i all) (get_or all i (name, w) ∷ [])
      ∙ ap (λ (r : List ℕ × Wave Value). row_groups v l marks 0 (take i all)
      ++ row_groups v l marks (0 + length (take i all)) (r ∷ []))
      (zip_at names ws i name w (omega (arith, same, within)) within)
      ∙ ap₂ (λ (t : List ℕ) (u : Wave Value). row_groups v l marks 0 (take i all)
      ++ row_groups v l marks (0 + length (take i all)) ((t, u) ∷ [])) (sym named) (sym is)
      ∙ ap (λ (n : ℕ). row_groups v l marks 0 (take i all)
      ++ row_groups v l marks n ((name, w) ∷ [])) here
      ∙ ap (λ (ns : List Node). row_groups v l marks 0 (take i all) ++ ns)
      (append-nil (row_group v l marks i name w))

  pub adds_row : (names : List (List ℕ)) (ws : List (Wave Value)) (i : ℕ) (name : List ℕ)
      (w : Wave Value) (old between new : Paper) → length names ≡ length ws → i < length ws →
      name ≡ get_or names i name → w ≡ get_or ws i w →
      Adds old between (all_written (row_groups v l marks 0 (take i (zip names ws)))) →
      Adds between new (all_written (row_group v l marks i name w)) →
      Adds old new (all_written (row_groups v l marks 0 (take (i + 1) (zip names ws))))
  adds_row names ws i name w old between new same within named is a b =
      let before = row_groups v l marks 0 (take i (zip names ws)) in
      let more = row_group v l marks i name w in
      adds_same old new (all_written before ++ all_written more)
      (all_written (row_groups v l marks 0 (take (i + 1) (zip names ws))))
      (sym (ap all_written (next names ws i name w same within named is)
      ∙ nodes_append before more))
      (adds_two old between new (all_written before) (all_written more) a b)

  pub adds_rows : (names : List (List ℕ)) (ws : List (Wave Value)) (i : ℕ) (old new : Paper) →
      length names ≡ length ws → length ws ≤ i →
      Adds old new (all_written (row_groups v l marks 0 (take i (zip names ws)))) →
      Adds old new (all_written (row_groups v l marks 0 (zip names ws)))
  adds_rows names ws i old new same past a =
      let long = zip_long names ws same in
      adds_same old new (all_written (row_groups v l marks 0 (take i (zip names ws))))
      (all_written (row_groups v l marks 0 (zip names ws)))
      (ap (λ (rs : List (List ℕ × Wave Value)). all_written (row_groups v l marks 0 rs))
      (take_all i (zip names ws) (omega (arith, long, past))))
      a
