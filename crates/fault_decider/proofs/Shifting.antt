-- Numbers one after another, until one does not do.
use Rattle.std.specs.Prelude.{◌&&◌, if◌then◌else◌}
use Rattle.std.proofs.Common.{◌≡◌, ℕ, zero, suc, ◌+◌, ◌-◌, ◌<◌, ◌≤◌, Bool, true, false, ◌∷◌, Option, Some, None, refl, sym, ap, ◌∙◌, arith}
use Rattle.std.specs.List.{list_all, range_with_len}
use Rattle.fault_decider.specs.Choices.{first_from}

left : (t n : ℕ) → t < n → n - t ≡ suc (n - (t + 1))
left t n less = omega arith

from_zero : (n : ℕ) → n - 0 ≡ n
from_zero n = omega arith

pub all_whole : (f : ℕ → Bool) (n : ℕ) → list_all f (range_with_len 0 (n - 0)) ≡ list_all f (range_with_len 0 n)
all_whole f n = ap (λ (m : ℕ). list_all f (range_with_len 0 m)) (from_zero n)

pub first_whole : (f : ℕ → Bool) (n : ℕ) → first_from f 0 (n - 0) ≡ first_from f 0 n
first_whole f n = ap (first_from f 0) (from_zero n)

pub all_stops : (f : ℕ → Bool) (t n : ℕ) → t < n → f t ≡ false →
    list_all f (range_with_len t (n - t)) ≡ false
all_stops f t n less stops =
    ap (λ (m : ℕ). list_all f (range_with_len t m)) (left t n less)
    ∙ ap (λ (b : Bool). b && list_all f (range_with_len (t + 1) (n - (t + 1)))) stops

pub all_goes : (f : ℕ → Bool) (t n : ℕ) → t < n → f t ≡ true →
    list_all f (range_with_len t (n - t)) ≡ list_all f (range_with_len (t + 1) (n - (t + 1)))
all_goes f t n less goes =
    ap (λ (m : ℕ). list_all f (range_with_len t m)) (left t n less)
    ∙ ap (λ (b : Bool). b && list_all f (range_with_len (t + 1) (n - (t + 1)))) goes

pub all_past : (f : ℕ → Bool) (t n : ℕ) → n ≤ t → list_all f (range_with_len t (n - t)) ≡ true
all_past f t n past =
    let none : n - t ≡ 0 = omega (arith, past) in
    ap (λ (m : ℕ). list_all f (range_with_len t m)) none

pub first_here : (f : ℕ → Bool) (t n : ℕ) → t < n → f t ≡ true → first_from f t (n - t) ≡ Some t
first_here f t n less here =
    ap (first_from f t) (left t n less)
    ∙ ap (λ (b : Bool). if b then Some t else first_from f (t + 1) (n - (t + 1))) here

pub first_later : (f : ℕ → Bool) (t n : ℕ) → t < n → f t ≡ false →
    first_from f t (n - t) ≡ first_from f (t + 1) (n - (t + 1))
first_later f t n less later =
    ap (first_from f t) (left t n less)
    ∙ ap (λ (b : Bool). if b then Some t else first_from f (t + 1) (n - (t + 1))) later

pub first_none : (f : ℕ → Bool) (t n : ℕ) → n ≤ t → first_from f t (n - t) ≡ None
first_none f t n past =
    let none : n - t ≡ 0 = omega (arith, past) in
    ap (first_from f t) none
