-- How far a front of a list goes.
use Rattle.std.proofs.Common.{◌≡◌, ℕ, suc, ◌+◌, ◌<◌, ◌≤◌, Bool, true, false, not, cond, List, [], ◌∷◌, drop, refl, ap, ◌∙◌, arith, eqb-true}
use Rattle.std.specs.Prelude.{◌==◌}
use Rattle.std.specs.List.{prefix_len}
use Rattle.std.proofs.lemmas.List.Sums.{prefix_len-le-length}
use Rattle.scald_lex.specs.Piece.{begins_with}

pub ruleset fronts = (prefix_len-le-length)

differs : (p : ℕ → Bool) (a b : ℕ) → p a ≡ false → p b ≡ true → (t : Bool) → (b == a) ≡ t → not t ≡ true
differs p a b none h false e = refl
differs p a b none h true e = absurd (let same : b ≡ a = eqb-true b a e in let k : p b ≡ p a = ap p same in cc)

-- If a test is false of one byte, what passes it is another.
pub unlike : (p : ℕ → Bool) (a : ℕ) → p a ≡ false → (b : ℕ) → p b ≡ true → not (b == a) ≡ true
unlike p a none b h = differs p a b none h (b == a) refl

further_step : (b c : Bool) (m n : ℕ) → (b ≡ true → c ≡ true) → m ≤ n → cond b (1 + m) 0 ≤ cond c (1 + n) 0
further_step true true m n h k = omega arith
further_step true false m n h k = absurd (let e : false ≡ true = h refl in cc)
further_step false c m n h k = omega arith

-- If more bytes pass, the front goes no less far.
pub further : (p q : ℕ → Bool) → ((b : ℕ) → p b ≡ true → q b ≡ true) → (xs : List ℕ) → prefix_len p xs ≤ prefix_len q xs
further p q h [] = omega arith
further p q h (x ∷ xs) = further_step (p x) (q x) (prefix_len p xs) (prefix_len q xs) (h x) (further p q h xs)

pub passes_one : (q : ℕ → Bool) (b : ℕ) (xs : List ℕ) → q b ≡ true → begins_with b xs ≡ true → 0 < prefix_len q xs
passes_one q b [] h k = absurd cc
passes_one q b (x ∷ xs) h k = let e : x ≡ b = eqb-true x b k in let t : q x ≡ true = ap q e ∙ h in rw t (omega arith)

drop_one : (m x : ℕ) (xs : List ℕ) → drop m xs ≡ drop (1 + m) (x ∷ xs)
drop_one m x xs = ap (λ (n : ℕ). drop n (x ∷ xs)) (let e : suc m ≡ 1 + m = omega arith in e)

past_step : (b c : Bool) (a x : ℕ) (xs : List ℕ) (m n : ℕ) → (b ≡ true → c ≡ true) → (x ≡ a → c ≡ true) →
    (begins_with a (drop m xs) ≡ true → m < n) → begins_with a (drop (cond b (1 + m) 0) (x ∷ xs)) ≡ true → cond b (1 + m) 0 < cond c (1 + n) 0
past_step true true a x xs m n h e k t = let l : m < n = k (ap (begins_with a) (drop_one m x xs) ∙ t) in omega arith
past_step true false a x xs m n h e k t = absurd (let f : false ≡ true = h refl in cc)
past_step false true a x xs m n h e k t = omega arith
past_step false false a x xs m n h e k t = absurd (let f : false ≡ true = e (eqb-true x a t) in cc)

-- A front, and the byte after it.
pub past : (p q : ℕ → Bool) (a : ℕ) → ((b : ℕ) → p b ≡ true → q b ≡ true) → q a ≡ true → (xs : List ℕ) → begins_with a (drop (prefix_len p xs) xs) ≡ true → prefix_len p xs < prefix_len q xs
past p q a h k [] t = absurd cc
past p q a h k (x ∷ xs) t = past_step (p x) (q x) a x xs (prefix_len p xs) (prefix_len q xs) (h x) (λ (e : x ≡ a). ap q e ∙ k) (past p q a h k xs) t
