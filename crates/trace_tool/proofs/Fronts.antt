-- Lines that are read one after another.
use Rattle.std.proofs.Common.{◌≡◌, ◌≢◌, ℕ, zero, suc, ◌+◌, ◌-◌, ◌<◌, ◌≤◌, Bool, true, false, List, [], ◌∷◌, ◌++◌, length, get_or, drop, codes, decimal, Option, Some, None, refl, ap, sym, subst, ◌∙◌, arith, add-one, inl, inr}
use Rattle.std.specs.Prelude.{slice_get, slice_index_or, option_map, ◌⊎◌, ◌==◌, ◌||◌}
use Rattle.std.specs.List.{flat_map, list_any}
use Rattle.std.proofs.lemmas.Bool.{cases_order}
use Rattle.std.proofs.lemmas.List.{length-append, length-map}
use Rattle.std.proofs.lemmas.List.Elements.{All-from_get_or}
use Rattle.std.proofs.lemmas.Option.{slice_get-get_or, slice_get-map, slice_get_past, slice_get_within}
use Rattle.flat_circuit.specs.declared.instance.Instance.{Instance}
use Rattle.flat_circuit.specs.Split.{two_delays}
use Rattle.flat_circuit.specs.Name.{name_at}
use Rattle.flat_circuit.specs.Circuit.{Circuit, IsCircuit, net_names}
use Rattle.listing.specs.Text.{bit_text}
use Rattle.listing.specs.Names.{instance_name, net_text}
use Rattle.trace_sim.proofs.Places.{has_place}
use Rattle.trace_tool.specs.declared.extent.Extent.{Extent}
use Rattle.trace_tool.specs.declared.trace.Trace.{Trace}
use Rattle.trace_tool.specs.declared.line.Line.{Line}
use Rattle.trace_tool.specs.declared.line.Line.TheVariants.{Head, Delays, Bits, End}
use Rattle.trace_tool.specs.Trace.{delay_text, delays_line, digit_text, end_line, head_line, instance_line, line_order, line_text, net_line, pick_at, row_at, trace_lines, wires_at, wires_text}
use Rattle.trace_tool.specs.Reading.{HasFirst, IsEnded, IsReadAs, IsRight, IsWithin, IsWrongLine, PickIsFit}
use Rattle.trace_tool.specs.Extent.{most_ticks}
use Rattle.trace_tool.specs.Taking.{AreLong, IsRefused, IsTaken}
use Rattle.trace_tool.proofs.Cutting.{or_right}
use Rattle.trace_tool.proofs.Lines.{get_behind, line_at_bits, line_at_delays, line_at_end, line_count_is}
use Rattle.trace_tool.proofs.Distinct.{at_head, at_delays, at_bits, at_end, below_or_not, once, only_head, place_of}
use Rattle.trace_tool.proofs.Heads.{head_is_one, most_small}

-- so many lines are right
abbrev pub AreRight : Extent → Circuit → Trace → List (List ℕ) → ℕ → Type 0
AreRight e c trace lines count = (j : ℕ) → j < count → IsRight e c trace (slice_get (line_order c) j) (slice_get lines j)

-- ---- one line more

stays : (e : Extent) (c : Circuit) (old new : Trace) (of : Line) (line : List ℕ) → IsTaken e c old new of line → of ≢ Head → (f : Line) (l : List ℕ) → f ≢ of →
    IsRight e c old (Some f) (Some l) → IsRight e c new (Some f) (Some l)
stays e c old new of line taken later Head l other right =
    let t = sym (taken.ticks later) in
    (subst (λ (n : ℕ). (1 ≤ n) × (n ≤ most_ticks e)) t right.0, right.1 ∙ ap head_line t)
stays e c old new of line taken later (Delays k) l other right =
    let i = slice_get c.instances k in
    let p = sym (taken.delays k (λ same. other (sym same))) in
    let w = sym (taken.wires k (λ same. other (sym same))) in (
      subst (λ (ws : List ℕ). PickIsFit c i (pick_at new k) ws) w
          (subst (λ (pick : ℕ × ℕ). PickIsFit c i pick (wires_at old k)) p right.0),
      right.1 ∙ ap (λ (pick : ℕ × ℕ). delays_line i pick (wires_at old k)) p ∙ ap (delays_line i (pick_at new k)) w,
    )
stays e c old new of line taken later (Bits n) l other right =
    let row = sym (taken.bits n (λ same. other (sym same))) in
    (ap length (sym row) ∙ right.0 ∙ sym (taken.ticks later), right.1 ∙ ap (net_line c n) row)
stays e c old new of line taken later End l other right = (tt, right.1)

stays_at : (e : Extent) (c : Circuit) (old new : Trace) (of : Line) (line : List ℕ) → IsTaken e c old new of line → of ≢ Head →
    (o : Option Line) (l : Option (List ℕ)) → o ≢ Some of → IsRight e c old o l → IsRight e c new o l
stays_at e c old new of line taken later None l other right = right
stays_at e c old new of line taken later (Some f) None other right = right
stays_at e c old new of line taken later (Some f) (Some l) other right =
    stays e c old new of line taken later f l (λ same. other (ap (λ (f : Line). Some f) same)) right

pub one_right : (e : Extent) (c : Circuit) → IsCircuit c → (old new : Trace) (lines : List (List ℕ)) (place : ℕ) (of : Line) (line : List ℕ) →
    slice_get (line_order c) place ≡ Some of → slice_get lines place ≡ Some line → IsTaken e c old new of line →
    AreRight e c old lines place → AreRight e c new lines (place + 1)
one_right e c known old new lines place of line has is taken before j below =
    elim (cases_order j place) as (λ _. IsRight e c new (slice_get (line_order c) j) (slice_get lines j)) [
      | inl same ↦
          subst (λ (j : ℕ). IsRight e c new (slice_get (line_order c) j) (slice_get lines j)) (sym same)
          (subst (λ (o : Option Line). IsRight e c new o (slice_get lines place)) (sym has)
          (subst (IsRight e c new (Some of)) (sym is) taken.right))
      | inr apart ↦ elim apart as (λ _. IsRight e c new (slice_get (line_order c) j) (slice_get lines j)) [
        | inl less ↦
            stays_at e c old new of line taken (only_head c known place of (place_of c place of has) (omega (arith, less)))
            (slice_get (line_order c) j) (slice_get lines j)
            (λ same. let one = once c known j place of (place_of c j of same) (place_of c place of has) in absurd (omega (arith, less, one)))
            (before j less)
        | inr more ↦ absurd (omega (arith, below, more))
      ]
    ]

-- ---- a wrong line

one_head : (e : Extent) (c : Circuit) (t u : Trace) (l : Option (List ℕ)) → IsRight e c t (Some Head) l → IsRight e c u (Some Head) l → t.ticks ≡ u.ticks
one_head e c t u None first second = absurd first
one_head e c t u (Some l) first second =
    let most = most_small e in let few = first.0.1 in let small = second.0.1 in
    head_is_one t.ticks u.ticks (omega (arith, few, most)) (omega (arith, small, most)) (sym first.1 ∙ second.1)

pub is_wrong : (e : Extent) (c : Circuit) (trace : Trace) (lines : List (List ℕ)) (place : ℕ) (of : Line) (line : List ℕ) →
    slice_get (line_order c) place ≡ Some of → slice_get lines place ≡ Some line → IsRefused e c trace of line →
    AreRight e c trace lines place → IsWrongLine e c lines (place + 1)
is_wrong e c trace lines place of line has is refused before = record {
  some = omega arith;
  inside = let within = slice_get_within lines place line is in omega (arith, within);
  before =
      let same : place ≡ place + 1 - 1 = omega arith in
      subst (HasFirst e c lines) same (record { trace = trace; each = before });
  here = λ first.
      refused first.trace
      (λ later. one_head e c first.trace trace (slice_get lines 0) (first.each 0 (omega arith)) (before 0 (some_before place has later)))
      (subst (IsRight e c first.trace (Some of)) is
      (subst (λ (o : Option Line). IsRight e c first.trace o (slice_get lines place)) has (first.each place (omega arith))));
}
  where
    some_before : (place : ℕ) → slice_get (line_order c) place ≡ Some of → of ≢ Head → 0 < place
    some_before zero has later = absurd (later (let same = sym has in cc))
    some_before (suc place) has later = omega arith

-- lines past the last
pub is_too_long : (e : Extent) (c : Circuit) (trace : Trace) (lines : List (List ℕ)) (line : List ℕ) →
    slice_get lines (length (line_order c)) ≡ Some line → AreRight e c trace lines (length (line_order c)) → IsWrongLine e c lines (length (line_order c) + 1)
is_too_long e c trace lines line is before =
    let count = length (line_order c) in
    record {
      some = omega arith;
      inside = let within = slice_get_within lines count line is in omega (arith, within);
      before =
          let same : count ≡ count + 1 - 1 = omega arith in
          subst (HasFirst e c lines) same (record { trace = trace; each = before });
      here = λ first.
          subst (λ (o : Option Line). IsRight e c first.trace o (slice_get lines count)) (slice_get_past (line_order c) count (omega arith))
          (first.each count (omega arith));
    }

-- ---- the last line

or_grows : (b u v : Bool) → (u ≡ true → v ≡ true) → (b || u) ≡ true → (b || v) ≡ true
or_grows true u v further h = refl
or_grows false u v further h = further h

any_front : (p : ℕ → Bool) (xs ys : List ℕ) → list_any p xs ≡ true → list_any p (xs ++ ys) ≡ true
any_front p [] ys h = absurd (cc)
any_front p (x ∷ xs) ys h = or_grows (p x) (list_any p xs) (list_any p (xs ++ ys)) (any_front p xs ys) h

any_behind : (p : ℕ → Bool) (xs ys : List ℕ) → list_any p ys ≡ true → list_any p (xs ++ ys) ≡ true
any_behind p [] ys h = h
any_behind p (x ∷ xs) ys h = or_right (p x) (list_any p (xs ++ ys)) (any_behind p xs ys h)

colon_in : (i : Instance) (pick : ℕ × ℕ) (wires : List ℕ) → list_any (λ b. b == 58) (instance_line i pick wires) ≡ true
unfolding instance_line
colon_in i pick wires =
    let delay = delay_text i.kind (two_delays i.kind i.split) pick in
    let rest = codes " :" ++ (wires_text wires ++ []) in
    any_behind (λ b. b == 58) (bit_text (instance_name i)) (codes " " ++ (delay ++ rest))
    (any_behind (λ b. b == 58) (codes " ") (delay ++ rest) (any_behind (λ b. b == 58) delay rest refl))

angle_in : (c : Circuit) (n : ℕ) (row : List Bool) → list_any (λ b. b == 60) (net_line c n row) ≡ true
unfolding net_line
angle_in c n row =
    let name = name_at (net_names c.nets) n in
    any_front (λ b. b == 60) (net_text c n) (codes " " ++ (flat_map digit_text row ++ []))
    (any_behind (λ b. b == 60) name.text (codes "<" ++ (decimal name.bit ++ (codes ">" ++ []))) refl)

not_end : (e : Extent) (c : Circuit) (trace : Trace) (of : Line) → of ≢ End → IsRight e c trace (Some of) (Some end_line) → ⊥
not_end e c trace Head other right = let first = ap (λ (l : List ℕ). slice_index_or l 0 0) right.1 in omega (arith, first)
not_end e c trace (Delays k) other right = none (slice_get c.instances k) right.0 right.1
  where
    none : (i : Option Instance) → PickIsFit c i (pick_at trace k) (wires_at trace k) → end_line ≡ delays_line i (pick_at trace k) (wires_at trace k) → ⊥
    none None fit same = fit
    none (Some i) fit same =
        let has = ap (list_any (λ b. b == 58)) same ∙ colon_in i (pick_at trace k) (wires_at trace k) in cc
not_end e c trace (Bits n) other right = let has = ap (list_any (λ b. b == 60)) right.1 ∙ angle_in c n (row_at trace n) in cc
not_end e c trace End other right = other refl

pub not_missing : (e : Extent) (c : Circuit) (trace : Trace) (lines : List (List ℕ)) (place : ℕ) → IsEnded lines → length lines ≤ place →
    place < length (line_order c) → AreRight e c trace lines place → ⊥
not_missing e c trace lines place ended short below before =
    let q = length ended.before in
    let long : length lines ≡ q + 1 = ap length ended.are ∙ length-append ended.before (end_line ∷ []) in
    let last : slice_get lines q ≡ Some end_line =
    ap (λ (ls : List (List ℕ)). slice_get ls q) ended.are ∙ get_behind ended.before (end_line ∷ []) 0 q (omega arith) in
    let has = slice_get-get_or (line_order c) q End (omega (arith, long)) in
    not_end e c trace (get_or (line_order c) q End) (early q has (omega (arith, long)))
    (subst (IsRight e c trace (Some (get_or (line_order c) q End))) last
    (subst (λ (o : Option Line). IsRight e c trace o (slice_get lines q)) has (before q (omega (arith, long)))))
  where
    early : (q : ℕ) → slice_get (line_order c) q ≡ Some (get_or (line_order c) q End) → q < place → get_or (line_order c) q End ≢ End
    early q has less is =
        let count = line_count_is c in
        let end = line_at_end c (suc (length c.instances + length c.order)) refl in
        elim (place_of c q End (has ∙ ap (λ (f : Line). Some f) is)) as (λ _. ⊥) [
          | at_head i x ↦ let clash = x in cc
          | at_delays k i h x ↦ let clash = x in cc
          | at_bits at n i h x ↦ let clash = x in cc
          | at_end i x ↦ omega (arith, i, count, less, below)
        ]

-- ---- all lines

pub same_lists : {X : Type 0} (xs ys : List X) → ((j : ℕ) → slice_get xs j ≡ slice_get ys j) → xs ≡ ys
same_lists [] [] same = refl
same_lists [] (y ∷ ys) same = let clash = same 0 in cc
same_lists (x ∷ xs) [] same = let clash = same 0 in cc
same_lists (x ∷ xs) (y ∷ ys) same =
    let first : x ≡ y = let one = same 0 in cc in
    let rest = same_lists xs ys (λ j. same (suc j)) in
    rw (first, rest) refl

right_text : (e : Extent) (c : Circuit) (trace : Trace) (o : Option Line) (l : Option (List ℕ)) → IsRight e c trace o l → l ≡ option_map (line_text c trace) o
right_text e c trace None l right = absurd right
right_text e c trace (Some of) None right = absurd right
right_text e c trace (Some of) (Some l) right = ap (λ (l : List ℕ). Some l) right.1

right_within : (e : Extent) (c : Circuit) (trace : Trace) (of : Line) (l : Option (List ℕ)) → IsRight e c trace (Some of) l → IsWithin e c trace of
right_within e c trace of None right = absurd right
right_within e c trace of (Some l) right = right.0

within_at : (e : Extent) (c : Circuit) (trace : Trace) (lines : List (List ℕ)) (place : ℕ) (of : Line) → slice_get (line_order c) place ≡ Some of →
    AreRight e c trace lines (length (line_order c)) → IsWithin e c trace of
within_at e c trace lines place of has all =
    right_within e c trace of (slice_get lines place)
    (subst (λ (o : Option Line). IsRight e c trace o (slice_get lines place)) has (all place (slice_get_within (line_order c) place of has)))

pub is_read : (e : Extent) (c : Circuit) → IsCircuit c → (trace : Trace) (lines : List (List ℕ)) → length lines ≤ length (line_order c) →
    AreLong c trace → AreRight e c trace lines (length (line_order c)) → IsReadAs e c lines trace
is_read e c known trace lines short long all =
    let head = within_at e c trace lines 0 Head refl all in
    record {
      is_trace = record {
        some = head.0;
        few = head.1;
        delays = long.delays;
        wires = long.wires;
        fit = λ k i is.
            subst (λ (o : Option Instance). PickIsFit c o (pick_at trace k) (wires_at trace k)) is
            (within_at e c trace lines (suc k) (Delays k) (line_at_delays c k (suc k) refl (slice_get_within c.instances k i is)) all);
        bits = record {
          rows = long.bits;
          long = All-from_get_or (λ (row : List Bool). length row ≡ trace.ticks) trace.bits [] (λ n below.
              let at = has_place c known n (let rows = long.bits in omega (arith, below)) in
              within_at e c trace lines (suc (length c.instances + at.place)) (Bits n)
              (line_at_bits c at.place (suc (length c.instances + at.place)) n refl at.is) all);
        };
      };
      are = same_lists lines (trace_lines c trace) (λ j. by_place j (below_or_not j (length (line_order c))));
    }
  where
    by_place : (j : ℕ) → (j < length (line_order c)) ⊎ (length (line_order c) ≤ j) → slice_get lines j ≡ slice_get (trace_lines c trace) j
    by_place j (inl below) =
        right_text e c trace (slice_get (line_order c) j) (slice_get lines j) (all j below)
        ∙ sym (slice_get-map (line_text c trace) (line_order c) j)
    by_place j (inr past) =
        let count = length-map (line_order c) (line_text c trace) in
        slice_get_past lines j (omega (arith, short, past)) ∙ sym (slice_get_past (trace_lines c trace) j (omega (arith, past, count)))

-- ---- the rest of a text

rest_cut_by : (lines rest : List (List ℕ)) (place : ℕ) (line : List ℕ) → drop place lines ≡ line ∷ rest →
    (slice_get lines place ≡ Some line) × (drop (suc place) lines ≡ rest)
rest_cut_by [] rest zero line is = absurd (cc)
rest_cut_by [] rest (suc place) line is = absurd (cc)
rest_cut_by (l ∷ lines) rest zero line is =
    (let same : l ≡ line = cc in ap (λ (l : List ℕ). Some l) same, let same : lines ≡ rest = cc in same)
rest_cut_by (l ∷ lines) rest (suc place) line is = rest_cut_by lines rest place line is

-- One line more is cut off.
pub record IsCut (lines rest : List (List ℕ)) (place : ℕ) (line : List ℕ) : Type 0 where
  pub first : slice_get lines place ≡ Some line
  pub others : drop (place + 1) lines ≡ rest

pub rest_cut : (lines rest : List (List ℕ)) (place : ℕ) (line : List ℕ) → drop place lines ≡ line ∷ rest → IsCut lines rest place line
rest_cut lines rest place line is =
    let cut = rest_cut_by lines rest place line is in
    record { first = cut.0; others = ap (λ (n : ℕ). drop n lines) (add-one place) ∙ cut.1 }

pub none_left : (lines : List (List ℕ)) (place : ℕ) → drop place lines ≡ [] → length lines ≤ place
none_left [] place is = omega arith
none_left (l ∷ lines) zero is = absurd (cc)
none_left (l ∷ lines) (suc place) is = let past = none_left lines place is in omega (arith, past)
