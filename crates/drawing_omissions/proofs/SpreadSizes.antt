-- How far a walk has to go: at each level no further than the statements of one body.
use Rattle.std.proofs.Common.{◌≡◌, ◌≢◌, ℕ, zero, suc, ◌+◌, ◌-◌, ◌<◌, Bool, true, false, cond, List, [], ◌∷◌, length, get_or, Some, refl, arith}
use Rattle.std.specs.List.{find}
use Rattle.drawing_tree.specs.declared.statement.Stmt.{Stmt}
use Rattle.drawing_tree.specs.Tree.{Statement, Use, Wire, If, For, Statements, nil, cons, Otherwise, no_else, else_, Macro, statement_of, statements_of}
use Rattle.macro_expander.specs.declared.library.Library.{Library}
use Rattle.macro_expander.specs.Library.{macros_in}

-- ---- statements

abbrev mutual
  pub size : Statement → ℕ
  size (Use u) = 1
  size (Wire w) = 1
  size (If test taken other place) = 2 + (size_of_all taken + size_of_other other)
  size (For var first last ss place) = 2 + size_of_all ss

  pub size_of_all : Statements → ℕ
  size_of_all nil = 0
  size_of_all (cons s ss) = 1 + (size s + size_of_all ss)

  pub size_of_other : Otherwise → ℕ
  size_of_other no_else = 0
  size_of_other (else_ ss) = size_of_all ss

-- what is left is no larger, and a statement of it is smaller
pub one_smaller : (all : List Stmt) (i : ℕ) (x : Stmt) → i < length all → x ≡ get_or all i x →
    size (statement_of x) < size_of_all (statements_of all)
one_smaller [] i x h is = absurd (omega arith)
one_smaller (y ∷ all) zero x h is = rw is (omega arith)
one_smaller (y ∷ all) (suc i) x h is =
    let more = one_smaller all i x (omega arith) is in
    omega arith

-- ---- levels

-- more than any body of these macros
abbrev pub beyond : List Macro → ℕ
beyond [] = 1
beyond (m ∷ ms) = size_of_all m.body + beyond ms

some_beyond : (ms : List Macro) → 0 < beyond ms
some_beyond [] = omega arith
some_beyond (m ∷ ms) = let more = some_beyond ms in omega arith

pub found_below : (p : Macro → Bool) (ms : List Macro) (m : Macro) → Some m ≡ find p ms →
    size_of_all m.body < beyond ms
found_below p [] m h = absurd (cc)
found_below p (x ∷ ms) m h = step (p x) h (found_below p ms m)
  where
    step : (b : Bool) → Some m ≡ cond b (Some x) (find p ms) →
        (Some m ≡ find p ms → size_of_all m.body < beyond ms) →
        size_of_all m.body < size_of_all x.body + beyond ms
    step true q more =
        let same : m ≡ x = cc in
        let some = some_beyond ms in
        rw same (omega arith)
    step false q more = let below = more q in omega arith

-- so much for each level
abbrev pub room : ℕ → ℕ → ℕ
room zero each = 0
room (suc n) each = each + room n each

-- what a walk has left: that of the levels, and of the statements at this one
abbrev pub left : Library → ℕ → ℕ → ℕ
left l levels here = room levels (beyond (macros_in l)) + here

room_more : (n each : ℕ) → n ≢ 0 → room n each ≡ each + room (n - 1) each
room_more zero each h = absurd (h refl)
room_more (suc n) each h = let e : suc n - 1 ≡ n = omega arith in rw e refl

pub level_smaller : (l : Library) (levels here : ℕ) → levels ≢ 0 → here < beyond (macros_in l) →
    left l (levels - 1) here < left l levels 0
level_smaller l levels here deep h =
    let more = room_more levels (beyond (macros_in l)) deep in
    omega arith
