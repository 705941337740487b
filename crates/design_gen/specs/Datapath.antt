-- The drawing of a datapath of n sections: registers of 8 bits on one clock, each after logic that
-- the register before it drives, and a checker at each register's data.
use Rattle.std.specs.Prelude.{ℕ, ◌-◌, List, [], ◌∷◌, ◌++◌, ◌==◌, codes, decimal, map, if◌then◌else◌}
use Rattle.std.specs.List.{concat, range_with_len}
use Rattle.design_gen.specs.Text.{line}

-- 8 units of 50 ticks are a period, and wires delay by 0 to 2 ticks
unfoldable pub head : List ℕ
head =
    line (codes "SCALD 1;" ∷ []) ++ line (codes "CLOCK 8 x 50;" ∷ [])
    ++ line (codes "WIRE 0:2;" ∷ []) ++ line (codes "DRAWING BENCH;" ∷ [])

-- Nothing drives the input of section 1, and its name says where it is stable.
unfoldable pub assertion : ℕ → List ℕ
assertion i = if i == 1 then codes " .S4-3" else []

-- the logic, from the output of the register before it
unfoldable pub change_line : ℕ → List ℕ
change_line i = line (
    codes "g" ∷ decimal i ∷ codes " : CHG [20:60] (\"Q" ∷ decimal (i - 1) ∷ assertion i
    ∷ codes "\"<0:7>) -> (\"D" ∷ decimal i ∷ codes "\"<0:7>);" ∷ [])

unfoldable pub checker_line : ℕ → List ℕ
checker_line i = line (
    codes "c" ∷ decimal i ∷ codes " : SETUP_HOLD_CHK {SETUP=20, HOLD=5} (\"CK .P2-3\", \"D"
    ∷ decimal i ∷ codes "\"<0:7>);" ∷ [])

unfoldable pub register_line : ℕ → List ℕ
register_line i = line (
    codes "r" ∷ decimal i ∷ codes " : REG [5:10] (\"CK .P2-3\", \"D" ∷ decimal i
    ∷ codes "\"<0:7>) -> (\"Q" ∷ decimal i ∷ codes "\"<0:7>);" ∷ [])

abbrev pub section : ℕ → List ℕ
section i = change_line i ++ checker_line i ++ register_line i

-- sections 1 to n, between the head and the one line that ends the drawing
unfoldable pub datapath : ℕ → List ℕ
datapath n = head ++ concat (map section (range_with_len 1 n)) ++ line (codes "END;" ∷ [])
