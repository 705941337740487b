-- What makes drawings differ, what keeps them from being well formed, and which of their places
-- count, one part of a drawing at a time.
use Rattle.std.proofs.Common.{◌≡◌, ℕ, true, false, List, [], ◌∷◌, ◌++◌, map, Some, None, inl, inr, refl, ap, arith}
use Rattle.std.specs.Prelude.{codes, length}
use Rattle.std.specs.List.{AllByRecursion, IsDistinct}
use Rattle.std.specs.Str.{bytes_eq}
use Rattle.std.proofs.lemmas.List.Elements.{All-head}
use Rattle.scald_base.specs.Time.{Header}
use Rattle.scald_base.specs.Word.{is_reserved}
use Rattle.scald_base.specs.declared.refusal.Place.{Place}
use Rattle.scald_base.specs.declared.assertion.AssertSpec.TheVariants.{Stable}
use Rattle.drawing_tree.specs.Expression.{Param, Negate}
use Rattle.drawing_tree.specs.declared.drawing.CaseEntry.{CaseEntry}
use Rattle.drawing_tree.specs.declared.drawing.CaseStmt.{CaseStmt}
use Rattle.drawing_tree.specs.Tree.{Connection, Assignment, Statement, Use, If, For, nil, cons, else_, Formal, Macro, Drawing}
use Rattle.drawing_tree.specs.WellFormed.{IsGoodRange, IsGoodAssignment, IsGoodStatement, IsGoodMacro, IsGoodEntry, IsWellFormed, AreDifferent, labels, primitive_names}
use Rattle.drawing_tree.specs.EachPlace.{IsUseAt, IsStatementAt, EachPlace}
use Rattle.drawing_tree.specs.Places.{SameButPlaces, unplaced_connection, unplaced_statement}
use Rattle.drawing_tree.proofs.Examples.{a, here, named, single, checker}

-- ---- labels

abbrev use_named : List ℕ → Statement
use_named label = Use (record checker { label = label })

-- those inside of an IF, after THEN and after ELSE, before those after it
in_the_order_of_the_text : labels
    (cons (If a (cons (use_named (codes "u")) nil) (else_ (cons (use_named (codes "v")) nil)) here)
    (cons (use_named (codes "w")) nil)) ≡ codes "u" ∷ codes "v" ∷ codes "w" ∷ []
in_the_order_of_the_text = refl

abbrev inner : Statement
inner = For (codes "J") a a (cons (use_named (codes "v")) nil) here

-- inside of FORs too, each once, whatever the values
inside_of_fors : labels
    (cons (For (codes "I") a a (cons (use_named (codes "u")) (cons inner nil)) here)
    (cons (use_named (codes "w")) nil)) ≡ codes "u" ∷ codes "v" ∷ codes "w" ∷ []
inside_of_fors = refl

-- ---- what no well formed drawing has

-- a reserved word as the end of a range
reserved_at_the_end : IsGoodRange (record { first = a; last = Some (Param (codes "END")) }) → ⊥
reserved_at_the_end good = let free : true ≡ false = good.last.is_free in cc

abbrev formal : Formal
formal = record { base = codes "D"; range = None }

abbrev macro : List ℕ → List Formal → List Formal → Macro
macro name ins outs =
    record { name = name; params = []; ins = ins; outs = outs; body = nil; place = here }

-- an input and an output of a macro with one base
input_and_output : (h : Header) → IsGoodMacro h (macro (codes "M") (formal ∷ []) (formal ∷ [])) → ⊥
unfolding IsDistinct
input_and_output h good = let apart : true ≡ false = good.different_formals.0.0 in cc

-- without the first texts, and of the first of them and a last one
after : (xs ys : List (List ℕ)) → AreDifferent (xs ++ ys) → AreDifferent ys
unfolding IsDistinct
after [] ys h = h
after (x ∷ xs) ys h = after xs ys h.1

last_of : (P : List ℕ → Type 0) (xs : List (List ℕ)) (y : List ℕ) →
    AllByRecursion P (xs ++ y ∷ []) → P y
last_of P [] y h = h.0
last_of P (x ∷ xs) y h = last_of P xs y h.1

abbrev others : List (List ℕ)
others =
    codes "AND" ∷ codes "OR" ∷ codes "XOR" ∷ codes "MUX2" ∷ codes "MUX4" ∷ codes "MUX8"
    ∷ codes "CHG" ∷ codes "REG" ∷ codes "REG_RS" ∷ codes "LATCH" ∷ codes "LATCH_RS"
    ∷ codes "SETUP_HOLD_CHK" ∷ codes "SETUP_RISE_HOLD_FALL_CHK" ∷ codes "MIN_PULSE_CHK" ∷ []

-- a macro of a primitive's name, and two of one name
module _ (d : Drawing) where
  as_a_primitive : IsWellFormed (record d { macros = macro (codes "BUF") [] [] ∷ [] }) → ⊥
  unfolding IsDistinct
  as_a_primitive good =
      let apart : true ≡ false =
      last_of (λ y. bytes_eq (codes "BUF") y ≡ false) others (codes "BUF") good.different_kinds.0 in
      cc

  twice : IsWellFormed (record d { macros = macro (codes "M") [] [] ∷ macro (codes "M") [] [] ∷ [] }) → ⊥
  unfolding IsDistinct
  twice good =
      let apart : true ≡ false =
      (after primitive_names (codes "M" ∷ codes "M" ∷ []) good.different_kinds).0.0 in
      cc

-- a version that is neither 1 nor 2
module _ (d : Drawing) where
  version_0 : IsWellFormed (record d { version = 0 }) → ⊥
  version_0 good = elim good.version [ inl first ↦ omega arith | inr second ↦ omega arith ]

  version_3 : IsWellFormed (record d { version = 3 }) → ⊥
  version_3 good = elim good.version [ inl first ↦ omega arith | inr second ↦ omega arith ]

abbrev constant : List ℕ → Assignment
constant name = record { name = name; value = a }

-- two constants of one name, one without a place, one with two, and one with a reserved name
module _ (d : Drawing) where
  constant_twice : (places : List Place) →
      IsWellFormed (record d {
        consts = constant (codes "N") ∷ constant (codes "N") ∷ [];
        const_places = places;
      }) → ⊥
  unfolding IsDistinct
  constant_twice places good = let apart : true ≡ false = good.different_consts.0.0 in cc

  constant_nowhere :
      IsWellFormed (record d { consts = constant (codes "N") ∷ []; const_places = [] }) → ⊥
  constant_nowhere good = let count : 0 ≡ 1 = good.const_places in omega arith

  constant_at_two_places :
      IsWellFormed (record d {
        consts = constant (codes "N") ∷ [];
        const_places = here ∷ here ∷ [];
      }) → ⊥
  constant_at_two_places good = let count : 2 ≡ 1 = good.const_places in omega arith

  reserved_constant :
      IsWellFormed (record d { consts = constant (codes "END") ∷ []; const_places = here ∷ [] }) → ⊥
  reserved_constant good =
      let first = All-head IsGoodAssignment (constant (codes "END")) [] good.consts in
      let free : true ≡ false = first.name.is_free in
      cc

-- a FOR whose variable is a reserved word; FOR, TO, DO and CONST are none
reserved_variable : (h : Header) → IsGoodStatement h (For (codes "IF") a a nil here) → ⊥
reserved_variable h good = let free : true ≡ false = good.0.is_free in cc

-- one with a reserved word in a bound or inside of it
reserved_first : (h : Header) →
    IsGoodStatement h (For (codes "I") (Param (codes "END")) a nil here) → ⊥
reserved_first h good = let free : true ≡ false = good.1.is_free in cc

reserved_last : (h : Header) →
    IsGoodStatement h (For (codes "I") a (Param (codes "END")) nil here) → ⊥
reserved_last h good = let free : true ≡ false = good.2.is_free in cc

reserved_inside : (h : Header) →
    IsGoodStatement h (For (codes "I") a a (cons (use_named (codes "END")) nil) here) → ⊥
reserved_inside h good = let free : true ≡ false = good.3.0.label.is_free in cc

free_words : map is_reserved (codes "FOR" ∷ codes "TO" ∷ codes "DO" ∷ codes "CONST" ∷ codes "IF" ∷ [])
    ≡ false ∷ false ∷ false ∷ false ∷ true ∷ []
free_words = refl

abbrev header : Header
header = record {
  units = 8;
  ticks = 50;
  wire = record { min = 0; max = 0 };
  pskew = (0, 0);
  cskew = (0, 0);
}

abbrev entry : ℕ → CaseEntry
entry hi = record {
  name = record { base = codes "A"; global = false; spec = Stable (record { lo = 1; hi = hi } ∷ []) };
  bit = 0;
  value = 0;
  place = here;
}

-- a net in a case whose interval goes beyond the period
beyond_the_period : IsGoodEntry header (entry 9) → ⊥
beyond_the_period good =
    let ends = (good.fits.intervals 0 (record { lo = 1; hi = 9 }) (omega arith)).ends in omega arith

-- ---- the places that count

abbrev IsFirstLine : Place → Type 0
IsFirstLine place = place.line ≡ 1

abbrev there : Place
there = record { line = 2; col = 1 }

abbrev below : Connection
below = record (single (named (codes "A"))) { place = there }

-- of each output
output_below : IsUseAt IsFirstLine (record checker { outs = below ∷ [] }) → ⊥
output_below h = let first : 2 ≡ 1 = h.outs.0 in omega arith

-- of each statement after ELSE
else_below : IsStatementAt IsFirstLine
    (If a nil (else_ (cons (Use (record checker { place = there })) nil)) here) → ⊥
else_below h = let first : 2 ≡ 1 = h.2.0.place in omega arith

-- of a FOR, and of each statement inside of it
for_below : IsStatementAt IsFirstLine (For (codes "I") a a nil there) → ⊥
for_below h = let first : 2 ≡ 1 = h.0 in omega arith

inside_below : IsStatementAt IsFirstLine
    (For (codes "I") a a (cons (Use (record checker { place = there })) nil) here) → ⊥
inside_below h = let first : 2 ≡ 1 = h.1.0.place in omega arith

-- of each constant
constant_below : (d : Drawing) →
    EachPlace IsFirstLine (record d { const_places = here ∷ there ∷ [] }) → ⊥
constant_below d h = let first : 2 ≡ 1 = h.consts.1.0 in omega arith

-- ---- drawings that differ

places_aside : unplaced_connection below ≡ unplaced_connection (single (named (codes "A")))
places_aside = refl

marked : unplaced_connection (record below { hold = true }) ≡ unplaced_connection below → ⊥
marked same = let hold : true ≡ false = ap (λ (c : Connection). c.hold) same in cc

abbrev case : CaseStmt
case = record { entries = entry 4 ∷ []; place = here }

one_case_less : (d : Drawing) →
    SameButPlaces (record d { cases = case ∷ [] }) (record d { cases = [] }) → ⊥
one_case_less d same =
    let count : 1 ≡ 0 = ap (λ (e : Drawing). length e.cases) same in
    omega (arith, count)

-- A FOR's place does not count, but its variable does.
for_places_aside : unplaced_statement (For (codes "I") a a nil there)
    ≡ unplaced_statement (For (codes "I") a a nil here)
for_places_aside = refl

another_variable : unplaced_statement (For (codes "II") a a nil here)
    ≡ unplaced_statement (For (codes "I") a a nil here) → ⊥
another_variable same = cc

-- So do its bounds, and what it holds but for the places there.
another_first : unplaced_statement (For (codes "I") (Negate a) a nil here)
    ≡ unplaced_statement (For (codes "I") a a nil here) → ⊥
another_first same = cc

another_last : unplaced_statement (For (codes "I") a (Negate a) nil here)
    ≡ unplaced_statement (For (codes "I") a a nil here) → ⊥
another_last same = cc

one_use_less : unplaced_statement (For (codes "I") a a (cons (use_named (codes "u")) nil) here)
    ≡ unplaced_statement (For (codes "I") a a nil here) → ⊥
one_use_less same = cc

inner_places_aside :
    unplaced_statement (For (codes "I") a a (cons (Use (record checker { place = there })) nil) here)
    ≡ unplaced_statement (For (codes "I") a a (cons (Use checker) nil) here)
inner_places_aside = refl

-- The places of constants do not count either, but how many there are does.
constants_elsewhere : (d : Drawing) →
    SameButPlaces (record d { const_places = here ∷ [] }) (record d { const_places = there ∷ [] })
constants_elsewhere d = refl

one_place_less : (d : Drawing) →
    SameButPlaces (record d { const_places = here ∷ [] }) (record d { const_places = [] }) → ⊥
one_place_less d same =
    let count : 1 ≡ 0 = ap (λ (e : Drawing). length e.const_places) same in
    omega (arith, count)

one_constant_less : (d : Drawing) →
    SameButPlaces (record d { consts = constant (codes "N") ∷ [] }) (record d { consts = [] }) → ⊥
one_constant_less d same =
    let count : 1 ≡ 0 = ap (λ (e : Drawing). length e.consts) same in
    omega (arith, count)

another_version : (d : Drawing) →
    SameButPlaces (record d { version = 1 }) (record d { version = 2 }) → ⊥
another_version d same =
    let version : 1 ≡ 2 = ap (λ (e : Drawing). e.version) same in
    omega (arith, version)
