-- Places after fronts of a text.
use Rattle.std.proofs.Common.{◌≡◌, ℕ, zero, ◌+◌, ◌<◌, ◌≤◌, suc, Bool, true, false, not, cond, List, [], ◌∷◌, ◌++◌, length, get_or, take, drop, refl, ap, subst, ◌∙◌, arith}
use Rattle.std.specs.Prelude.{◌==◌}
use Rattle.std.proofs.Math.Seq.{take-add}
use Rattle.std.proofs.lemmas.List.{take_more, length-take-le}
use Rattle.std.specs.List.{prefix_len}
use Rattle.scald_base.specs.declared.refusal.Place.{Place}
use Rattle.scald_lex.specs.Bytes.{line_end, is_comment_byte}
use Rattle.scald_lex.specs.Place.{first_place, next_place, place_behind, place_at}

pub place_behind_append : (p : Place) (xs ys : List ℕ) → place_behind p (xs ++ ys) ≡ place_behind (place_behind p xs) ys
place_behind_append p [] ys = refl
place_behind_append p (x ∷ xs) ys = place_behind_append (next_place p x) xs ys

-- One byte further.
pub place_next : (text : List ℕ) (i : ℕ) → i < length text → place_at text (i + 1) ≡ next_place (place_at text i) (get_or text i 0)
place_next text i h = ap (place_behind first_place) (take_more text i 0 h) ∙ place_behind_append first_place (take i text) (get_or text i 0 ∷ [])

stays : (b : Bool) (n m : ℕ) → suc n ≤ cond (not b) (1 + m) 0 → (b ≡ false) × (n ≤ m)
stays true n m h = absurd (omega arith)
stays false n m h = (refl, omega arith)

-- So many bytes further on a line.
along : (p : Place) (xs : List ℕ) (n : ℕ) → n ≤ prefix_len is_comment_byte xs → place_behind p (take n xs) ≡ record { line = p.line; col = p.col + n }
along p xs zero h = ap (λ (c : ℕ). record { line = p.line; col = c }) (let e : p.col ≡ p.col + 0 = omega arith in e)
along p [] (suc n) h = absurd (omega arith)
along p (x ∷ xs) (suc n) h =
    let here = stays (x == line_end) n (prefix_len is_comment_byte xs) h in
    let next : Place = record { line = p.line; col = p.col + 1 } in
    let moved : next_place p x ≡ next = rw here.0 refl in
    ap (λ (q : Place). place_behind q (take n xs)) moved ∙ along next xs n here.1
    ∙ ap (λ (c : ℕ). record { line = p.line; col = c }) (let e : p.col + 1 + n ≡ p.col + suc n = omega arith in e)

pub place_along : (text : List ℕ) (i n : ℕ) → n ≤ prefix_len is_comment_byte (drop i text) → place_at text (i + n) ≡ record { line = (place_at text i).line; col = (place_at text i).col + n }
place_along text i n h =
    ap (place_behind first_place) (take-add i n text) ∙ place_behind_append first_place (take i text) (take n (drop i text))
    ∙ along (place_at text i) (drop i text) n h

-- A place's numbers are no greater than what was read, and one.
pub record IsNear (p : Place) (n : ℕ) : Type 0 where
  pub line : p.line ≤ n + 1
  pub col : p.col ≤ n + 1

near_step : (b : Bool) (p : Place) (n : ℕ) → IsNear p n → IsNear (cond b (record { line = p.line + 1; col = 1 }) (record { line = p.line; col = p.col + 1 })) (n + 1)
near_step true p n is = let h = is.line in record { line = omega arith; col = omega arith }
near_step false p n is = let h = is.line in let k = is.col in record { line = omega arith; col = omega arith }

near : (p : Place) (n : ℕ) (xs : List ℕ) → IsNear p n → IsNear (place_behind p xs) (n + length xs)
near p n [] is = subst (λ (m : ℕ). IsNear p m) (let e : n ≡ n + 0 = omega arith in e) is
near p n (x ∷ xs) is =
    let e : n + 1 + length xs ≡ n + length (x ∷ xs) = omega arith in
    subst (λ (m : ℕ). IsNear (place_behind (next_place p x) xs) m) e (near (next_place p x) (n + 1) xs (near_step (x == line_end) p n is))

pub place_near : (text : List ℕ) (i : ℕ) → i ≤ length text → IsNear (place_at text i) i
place_near text i h = subst (λ (m : ℕ). IsNear (place_at text i) m) (let e : 0 + length (take i text) ≡ i =
    omega (arith, length-take-le i text h) in e) (near first_place 0 (take i text) (record { line = omega arith; col = omega arith }))
