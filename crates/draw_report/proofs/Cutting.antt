-- Rows, cut net by net.
use Rattle.std.proofs.Common.{◌≡◌, ℕ, zero, suc, ◌+◌, ◌-◌, ◌<◌, ◌≤◌, Bool, true, false, List, [], ◌∷◌, ◌++◌, length, append_assoc, append-nil, Option, Some, None, refl, arith, ap, sym, ◌∙◌}
use Rattle.std.specs.Prelude.{if◌then◌else◌}
use Rattle.std.specs.List.{All, filter, flat_map, range_with_len}
use Rattle.std.proofs.lemmas.List.Elements.{All-append, All-cons, All-filter, All-head, All-nil, All-tail}
use borrow.Author.Count.{below_more}
use Rattle.flat_circuit.specs.Circuit.{Circuit}
use Rattle.fixpoint_engine.specs.Waves.{Waves}
use Rattle.draw_report.specs.declared.row.Row.{Row}
use Rattle.draw_report.specs.Below.{HaveNets, is_like_last, is_row_below, parts, rows_below}
use Rattle.draw_report.specs.Row.{AreInside, AreRows, RowsAre, cut, cut_all, is_clock_row, is_other_row, joins, named_rows, one_row, places, rows_of}
use Rattle.draw_report.proofs.Ranges.{range_apart}

-- ---- one net more, in code that goes from place to place

if_so : {X : Type 0} (b : Bool) (x y : X) → b ≡ true → (if b then x else y) ≡ x
if_so b x y is = ap (λ t. if t then x else y) is

if_not : {X : Type 0} (b : Bool) (x y : X) → b ≡ false → (if b then x else y) ≡ y
if_not b x y is = ap (λ t. if t then x else y) is

module _ (test : ℕ → Bool) where
  one_more : (from place count : ℕ) → place < count →
      cut test from place (count - place) ≡ cut test from place (suc (count - (place + 1)))
  one_more from place count below =
      let e : count - place ≡ suc (count - (place + 1)) = omega arith in ap (cut test from place) e

  kept : (from place count : ℕ) → place < count → test place ≡ true →
      cut test from place (count - place) ≡ cut test from (place + 1) (count - (place + 1))
  kept from place count below goes =
      one_more from place count below
      ∙ if_so (test place) (cut test from (place + 1) (count - (place + 1)))
      (one_row from place ∷ cut test place (place + 1) (count - (place + 1))) goes

  parted : (from place count : ℕ) → place < count → test place ≡ false →
      cut test from place (count - place)
      ≡ one_row from place ∷ cut test place (place + 1) (count - (place + 1))
  parted from place count below stops =
      one_more from place count below
      ∙ if_not (test place) (cut test from (place + 1) (count - (place + 1)))
      (one_row from place ∷ cut test place (place + 1) (count - (place + 1))) stops

  pub first_cut : (count : ℕ) → (count ≡ 0 → ⊥) → cut test 0 1 (count - 1) ≡ cut_all test count
  first_cut zero some = absurd (some refl)
  first_cut (suc more) some = let e : suc more - 1 ≡ more = omega arith in ap (cut test 0 1) e

  pub none_left : (from place count : ℕ) → count ≤ place →
      cut test from place (count - place) ≡ one_row from place ∷ []
  none_left from place count past =
      let e : count - place ≡ 0 = omega arith in ap (cut test from place) e

  -- what was found, and what is cut from the row on, are all: one place more joins, or does not
  pub goes_on : (from place count : ℕ) (found all : List Row) → place < count → test place ≡ true →
      found ++ cut test from place (count - place) ≡ all →
      found ++ cut test from (place + 1) (count - (place + 1)) ≡ all
  goes_on from place count found all below goes before =
      ap (λ (l : List Row). found ++ l) (sym (kept from place count below goes)) ∙ before

  pub stops : (from place count : ℕ) (found more all : List Row) → place < count →
      test place ≡ false → more ≡ found ++ one_row from place ∷ [] →
      found ++ cut test from place (count - place) ≡ all →
      more ++ cut test place (place + 1) (count - (place + 1)) ≡ all
  stops from place count found more all below stop added before =
      ap (λ (l : List Row). l ++ cut test place (place + 1) (count - (place + 1))) added
      ∙ append_assoc found (one_row from place ∷ [])
      (cut test place (place + 1) (count - (place + 1)))
      ∙ ap (λ (l : List Row). found ++ l) (sym (parted from place count below stop)) ∙ before

-- ---- what rows are

-- what holds of all rows that are cut from an open one on
record AreCut (test : ℕ → Bool) (from place more : ℕ) (rs : List Row) : Type 0 where
  cover : flat_map places rs ≡ range_with_len from ((place - from) + more)
  some : All (λ (r : Row). r.from < r.to) rs
  one : All (λ (r : Row). (p : ℕ) → r.from < p → p < r.to → test p ≡ true) rs
  within : All (λ (r : Row). r.to ≤ place + more) rs

module _ (test : ℕ → Bool) where
  joined_more : (from place : ℕ) → ((p : ℕ) → from < p → p < place → test p ≡ true) →
      test place ≡ true → (p : ℕ) → p < place + 1 → from < p → test p ≡ true
  joined_more from place one goes =
      below_more (λ (p : ℕ). from < p → test p ≡ true) place
      (λ p below after. one p after below) (λ after. goes)

  more_joined : (from place more : ℕ) (rs : List Row) → from < place →
      AreCut test from (place + 1) more rs → AreCut test from place (suc more) rs
  more_joined from place more rs some a = record {
    cover = a.cover
        ∙ (let e : (place + 1 - from) + more ≡ (place - from) + suc more = omega (arith, some) in
        ap (range_with_len from) e);
    some = a.some;
    one = a.one;
    within = λ k d inside. (let h = a.within k d inside in omega (arith, h));
  }

  more_parted : (from place more : ℕ) (rs : List Row) → from < place →
      ((p : ℕ) → from < p → p < place → test p ≡ true) →
      AreCut test place (place + 1) more rs →
      AreCut test from place (suc more) (one_row from place ∷ rs)
  more_parted from place more rs some one a =
      let count : (place + 1 - place) + more ≡ suc more = omega arith in
      let begin : place ≡ from + (place - from) = omega (arith, some) in
      record {
        cover = ap (λ (l : List ℕ). places (one_row from place) ++ l)
            (a.cover ∙ ap (range_with_len place) count
            ∙ ap (λ (b : ℕ). range_with_len b (suc more)) begin)
            ∙ sym (range_apart from (place - from) (suc more));
        some = All-cons (λ (r : Row). r.from < r.to) (one_row from place) rs some a.some;
        one = All-cons (λ (r : Row). (p : ℕ) → r.from < p → p < r.to → test p ≡ true)
            (one_row from place) rs one a.one;
        within = All-cons (λ (r : Row). r.to ≤ place + suc more) (one_row from place) rs
            (omega arith) (λ k d inside. (let h = a.within k d inside in omega (arith, h)));
      }

  cut_are : (from place more : ℕ) → from < place →
      ((p : ℕ) → from < p → p < place → test p ≡ true) →
      AreCut test from place more (cut test from place more)
  cut_are from place zero some one = record {
    cover = append-nil (places (one_row from place))
        ∙ (let e : place - from ≡ (place - from) + 0 = omega arith in ap (range_with_len from) e);
    some = All-cons (λ (r : Row). r.from < r.to) (one_row from place) [] some
        (All-nil (λ (r : Row). r.from < r.to));
    one = All-cons (λ (r : Row). (p : ℕ) → r.from < p → p < r.to → test p ≡ true)
        (one_row from place) [] one
        (All-nil (λ (r : Row). (p : ℕ) → r.from < p → p < r.to → test p ≡ true));
    within = All-cons (λ (r : Row). r.to ≤ place + zero) (one_row from place) [] (omega arith)
        (All-nil (λ (r : Row). r.to ≤ place + zero));
  }
  cut_are from place (suc more) some one = by (test place) refl
      (λ goes. cut_are from (place + 1) more (let h = some in omega (arith, h))
      (λ p after before. joined_more from place one goes p before after))
      (λ stop. cut_are place (place + 1) more (omega arith)
      (λ p after before. absurd (omega arith)))
    where
      by : (goes : Bool) → test place ≡ goes →
          (test place ≡ true → AreCut test from (place + 1) more (cut test from (place + 1) more)) →
          (test place ≡ false → AreCut test place (place + 1) more
          (cut test place (place + 1) more)) →
          AreCut test from place (suc more) (if goes then cut test from (place + 1) more
          else one_row from place ∷ cut test place (place + 1) more)
      by true goes a b = more_joined from place more (cut test from (place + 1) more) some (a goes)
      by false stop a b =
          more_parted from place more (cut test place (place + 1) more) some one (b stop)

all_are : (c : Circuit) (ws : Waves) (count : ℕ) → length c.nets ≡ count →
    AreRows c ws (cut_all (joins c ws) count)
all_are c ws zero is = record {
  cover = sym (ap (range_with_len 0) is);
  some = All-nil (λ (r : Row). r.from < r.to);
  alike = All-nil (λ (r : Row). (place : ℕ) → r.from < place → place < r.to →
      joins c ws place ≡ true);
}
all_are c ws (suc more) is =
    let a = cut_are (joins c ws) 0 1 more (omega arith) (λ p after before. absurd (omega arith)) in
    record {
      cover = a.cover
          ∙ (let e : (1 - 0) + more ≡ length c.nets = omega (arith, is) in
          ap (range_with_len 0) e);
      some = a.some;
      alike = a.one;
    }

pub rows_are : RowsAre
rows_are c ws = all_are c ws (length c.nets) refl

-- so their first nets exist
inside_by : (c : Circuit) (ws : Waves) (count : ℕ) → length c.nets ≡ count →
    AreInside c (cut_all (joins c ws) count)
inside_by c ws zero is = All-nil (λ (r : Row). r.from < length c.nets)
inside_by c ws (suc more) is =
    let a = cut_are (joins c ws) 0 1 more (omega arith) (λ p after before. absurd (omega arith)) in
    λ k d inside. (let some = a.some k d inside in let within = a.within k d inside in
    omega (arith, some, within, is))

pub named_inside : (c : Circuit) (ws : Waves) → AreInside c (named_rows c ws)
named_inside c ws = inside_by c ws (length c.nets) refl

-- and those of all rows
pub rows_inside : (c : Circuit) (ws : Waves) → AreInside c (rows_of c ws)
rows_inside c ws =
    let inside = λ (r : Row). r.from < length c.nets in
    All-append inside (filter (is_clock_row c) (named_rows c ws))
    (filter (is_other_row c) (named_rows c ws))
    (All-filter (is_clock_row c) inside (named_rows c ws) (named_inside c ws))
    (All-filter (is_other_row c) inside (named_rows c ws) (named_inside c ws))

-- ---- rows below a path

-- rows have nets
pub rows_have_nets : (c : Circuit) (ws : Waves) → HaveNets (rows_of c ws)
rows_have_nets c ws =
    let has = λ (r : Row). r.from < r.to in
    let named = (rows_are c ws).some in
    All-append has (filter (is_clock_row c) (named_rows c ws))
    (filter (is_other_row c) (named_rows c ws))
    (All-filter (is_clock_row c) has (named_rows c ws) named)
    (All-filter (is_other_row c) has (named_rows c ws) named)

-- which all exist
ended_by : (c : Circuit) (ws : Waves) (count : ℕ) → length c.nets ≡ count →
    All (λ (r : Row). r.to ≤ length c.nets) (cut_all (joins c ws) count)
ended_by c ws zero is = All-nil (λ (r : Row). r.to ≤ length c.nets)
ended_by c ws (suc more) is =
    let a = cut_are (joins c ws) 0 1 more (omega arith) (λ p after before. absurd (omega arith)) in
    λ k d inside. (let within = a.within k d inside in omega (arith, within, is))

rows_ended : (c : Circuit) (ws : Waves) →
    All (λ (r : Row). r.to ≤ length c.nets) (rows_of c ws)
rows_ended c ws =
    let ends = λ (r : Row). r.to ≤ length c.nets in
    let named = ended_by c ws (length c.nets) refl in
    All-append ends (filter (is_clock_row c) (named_rows c ws))
    (filter (is_other_row c) (named_rows c ws))
    (All-filter (is_clock_row c) ends (named_rows c ws) named)
    (All-filter (is_other_row c) ends (named_rows c ws) named)

module _ (c : Circuit) (path : List ℕ) where
  parts_inside : (r : Row) → r.from < r.to → r.to ≤ length c.nets →
      AreInside c (parts c path r)
  parts_inside r some ends =
      let a = cut_are (is_like_last c path) r.from (r.from + 1) (r.to - (r.from + 1)) (omega arith)
      (λ p after before. absurd (omega (arith, after, before))) in
      λ k d inside. (let has = a.some k d inside in let within = a.within k d inside in
      omega (arith, has, within, some, ends))

  all_inside : (rs : List Row) → HaveNets rs → All (λ (r : Row). r.to ≤ length c.nets) rs →
      AreInside c (flat_map (parts c path) rs)
  all_inside [] some ends = All-nil (λ (r : Row). r.from < length c.nets)
  all_inside (r ∷ rs) some ends =
      All-append (λ (q : Row). q.from < length c.nets) (parts c path r)
      (flat_map (parts c path) rs)
      (parts_inside r (All-head (λ (q : Row). q.from < q.to) r rs some)
      (All-head (λ (q : Row). q.to ≤ length c.nets) r rs ends))
      (all_inside rs (All-tail (λ (q : Row). q.from < q.to) r rs some)
      (All-tail (λ (q : Row). q.to ≤ length c.nets) r rs ends))

pub rows_below_inside : (c : Circuit) (ws : Waves) (under : Option (List ℕ)) →
    AreInside c (rows_below c under (rows_of c ws))
rows_below_inside c ws None = rows_inside c ws
rows_below_inside c ws (Some path) =
    All-filter (is_row_below c path) (λ (r : Row). r.from < length c.nets)
    (flat_map (parts c path) (rows_of c ws))
    (all_inside c path (rows_of c ws) (rows_have_nets c ws) (rows_ended c ws))
