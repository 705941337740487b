-- A reader of a dump finds every bit of the run.
use Rattle.std.proofs.Common.{◌≡◌, ℕ, zero, suc, ◌+◌, ◌-◌, ◌<◌, ◌≤◌, ◌⊎◌, inl, inr, ⊎_elim, Bool, true, false, not, ◌||◌, List, [], ◌∷◌, ◌++◌, length, map, get_or, append_assoc, refl, arith, rules, tests, ap, sym, subst, zero-add, ◌∙◌}
use Rattle.std.specs.Prelude.{if◌then◌else◌, nat_le}
use Rattle.std.specs.Bool.{beq}
use Rattle.std.specs.List.{All, flat_map, list_any}
use Rattle.std.specs.Str.{bytes_eq}
use Rattle.std.proofs.lemmas.Slice.Eq.{bytes_eq-Decides}
use Rattle.std.proofs.lemmas.List.{get_or_default, get_or-map}
use Rattle.std.proofs.lemmas.List.FromFn.{get_or-range_with_len}
use Rattle.flat_circuit.specs.Circuit.{Circuit, IsCircuit}
use Rattle.trace_tool.specs.declared.stretch.Stretch.{Stretch}
use Rattle.trace_tool.specs.Stretch.{cut, cut_all, first, follows, longer, next, stretches}
use Rattle.trace_tool.specs.Variable.{code_of}
use Rattle.trace_tool.specs.Change.{Command, End, Start, Time, change, later_commands, level, levels, steps, tick_commands, value_if, value_of}
use Rattle.trace_tool.specs.Dump.{changes, start_commands}
use Rattle.trace_tool.specs.DumpReading.{BitsComeBack, value_at}
use Rattle.trace_tool.proofs.Codes.{codes_differ}
use Rattle.trace_tool.proofs.DumpCutting.{stretches_are}

-- ---- what does not change

or_left : (a b : Bool) → (a || b) ≡ false → a ≡ false
or_left a b none = grind arith

or_right : (a b : Bool) → (a || b) ≡ false → b ≡ false
or_right a b none = grind arith

same_bits : (a b : Bool) → not (beq a b) ≡ false → a ≡ b
same_bits true true same = refl
same_bits false false same = refl
same_bits true false same = absurd (cc)
same_bits false true same = absurd (cc)

unchanged : (c : Circuit) (rows : List (List Bool)) (u place n : ℕ) → change c rows u place n ≡ false → levels c rows (u - 1) place n ≡ levels c rows u place n
unchanged c rows u place zero none = refl
unchanged c rows u place (suc n) none =
    let one = sym (same_bits (level c rows (place + n) u) (level c rows (place + n) (u - 1)) (or_left (not (beq (level c rows (place + n) u) (level c rows (place + n) (u - 1)))) (change c rows u place n) none)) in
    let others = unchanged c rows u place n (or_right (not (beq (level c rows (place + n) u) (level c rows (place + n) (u - 1)))) (change c rows u place n) none) in
    ap (λ (b : Bool). b ∷ levels c rows (u - 1) place n) one ∙ ap (λ (bs : List Bool). level c rows (place + n) u ∷ bs) others

none_of : {X : Type 0} (p : X → Bool) (xs : List X) (k : ℕ) (d : X) → k < length xs → list_any p xs ≡ false → p (get_or xs k d) ≡ false
none_of p [] k d below none = absurd (omega arith)
none_of p (x ∷ xs) zero d below none = or_left (p x) (list_any p xs) none
none_of p (x ∷ xs) (suc k) d below none = none_of p xs k d (omega arith) (or_right (p x) (list_any p xs) none)

-- ---- the values of one stretch

module _ (c : Circuit) (rows : List (List Bool)) (s : Stretch) (t : ℕ) where
  abbrev value : Stretch → ℕ → List Bool
  value q u = levels c rows u q.from (q.to - q.from)

  abbrev code : List ℕ
  code = code_of s.number

  abbrev is_own : Stretch → Bool
  is_own q = bytes_eq (code_of q.number) code

  -- no other has its code
  abbrev Only : List Stretch → Type 0
  Only ss = All (λ (q : Stretch). is_own q ≡ true → q ≡ s) ss

  rest_only : (q : Stretch) (qs : List Stretch) → Only (q ∷ qs) → Only qs
  rest_only q qs only k d below = only (suc k) d (omega arith)

  own : is_own s ≡ true
  own = (bytes_eq-Decides code code).1 refl

  -- ---- at the start

  picked : (q : Stretch) (u : ℕ) (mine : Bool) → is_own q ≡ mine → (is_own q ≡ true → q ≡ s) → (if mine then value q u else value s u) ≡ value s u
  picked q u true is only = ap (λ (r : Stretch). value r u) (only is)
  picked q u false is only = refl

  keep_all : (u : ℕ) (rest : List Command) (ss : List Stretch) → Only ss →
      value_at code t (map (value_of c rows u) ss ++ rest) (value s u) ≡ value_at code t rest (value s u)
  keep_all u rest [] only = refl
  keep_all u rest (q ∷ qs) only =
      ap (value_at code t (map (value_of c rows u) qs ++ rest)) (picked q u (is_own q) refl (only 0 q (omega arith)))
      ∙ keep_all u rest qs (rest_only q qs only)

  own_value : (q : Stretch) (u : ℕ) (last : List Bool) → q ≡ s → (if is_own q then value q u else last) ≡ value s u
  own_value q u last same =
      ap (λ (r : Stretch). if is_own r then value r u else last) same
      ∙ ap (λ (mine : Bool). if mine then value s u else last) own

  found_all : (u : ℕ) (rest : List Command) (ss : List Stretch) (k : ℕ) (d : Stretch) (last : List Bool) → k < length ss → get_or ss k d ≡ s → Only ss →
      value_at code t (map (value_of c rows u) ss ++ rest) last ≡ value_at code t rest (value s u)
  found_all u rest [] k d last below is only = absurd (omega arith)
  found_all u rest (q ∷ qs) zero d last below is only =
      ap (value_at code t (map (value_of c rows u) qs ++ rest)) (own_value q u last is)
      ∙ keep_all u rest qs (rest_only q qs only)
  found_all u rest (q ∷ qs) (suc k) d last below is only =
      found_all u rest qs k d (if is_own q then value q u else last) (omega arith) is (rest_only q qs only)

  -- ---- at a later tick

  -- the value after what a stretch gives at a tick
  abbrev after : Bool → Stretch → ℕ → List Bool → List Bool
  after stepping q u last = if stepping then (if is_own q then value q u else last) else last

  one_given : (q : Stretch) (u : ℕ) (others rest : List Command) (last : List Bool) (stepping : Bool) →
      value_at code t (((if stepping then value_of c rows u q ∷ [] else []) ++ others) ++ rest) last
      ≡ value_at code t (others ++ rest) (after stepping q u last)
  one_given q u others rest last true = refl
  one_given q u others rest last false = refl

  -- the value before a tick, or that at it
  abbrev IsNear : ℕ → List Bool → Type 0
  IsNear u last = (last ≡ value s (u - 1)) ⊎ (last ≡ value s u)

  kept : (q : Stretch) (u : ℕ) (stepping : Bool) → (is_own q ≡ true → q ≡ s) → after stepping q u (value s u) ≡ value s u
  kept q u true only = picked q u (is_own q) refl only
  kept q u false only = refl

  keep_if : (u : ℕ) (rest : List Command) (ss : List Stretch) → Only ss →
      value_at code t (flat_map (value_if c rows u) ss ++ rest) (value s u) ≡ value_at code t rest (value s u)
  keep_if u rest [] only = refl
  keep_if u rest (q ∷ qs) only =
      one_given q u (flat_map (value_if c rows u) qs) rest (value s u) (steps c rows u q)
      ∙ ap (value_at code t (flat_map (value_if c rows u) qs ++ rest)) (kept q u (steps c rows u q) (only 0 q (omega arith)))
      ∙ keep_if u rest qs (rest_only q qs only)

  near_by : (q : Stretch) (u : ℕ) (last : List Bool) (mine : Bool) → is_own q ≡ mine → (is_own q ≡ true → q ≡ s) → IsNear u last →
      IsNear u (if mine then value q u else last)
  near_by q u last true is only close = inr (ap (λ (r : Stretch). value r u) (only is))
  near_by q u last false is only close = close

  near_after : (q : Stretch) (u : ℕ) (last : List Bool) (stepping : Bool) → (is_own q ≡ true → q ≡ s) → IsNear u last → IsNear u (after stepping q u last)
  near_after q u last true only close = near_by q u last (is_own q) refl only close
  near_after q u last false only close = close

  -- its own turn
  turn : (u : ℕ) (last : List Bool) (stepping : Bool) → steps c rows u s ≡ stepping → IsNear u last → after stepping s u last ≡ value s u
  turn u last true is close = own_value s u last refl
  turn u last false is close =
      ⊎_elim (λ (early : last ≡ value s (u - 1)). early ∙ unchanged c rows u s.from (s.to - s.from) is) (λ (now : last ≡ value s u). now) close

  its_turn : (q : Stretch) (u : ℕ) (last : List Bool) → q ≡ s → IsNear u last → after (steps c rows u q) q u last ≡ value s u
  its_turn q u last same close =
      ap (λ (r : Stretch). after (steps c rows u r) r u last) same ∙ turn u last (steps c rows u s) refl close

  found_if : (u : ℕ) (rest : List Command) (ss : List Stretch) (k : ℕ) (d : Stretch) (last : List Bool) → k < length ss → get_or ss k d ≡ s → Only ss → IsNear u last →
      value_at code t (flat_map (value_if c rows u) ss ++ rest) last ≡ value_at code t rest (value s u)
  found_if u rest [] k d last below is only close = absurd (omega arith)
  found_if u rest (q ∷ qs) zero d last below is only close =
      one_given q u (flat_map (value_if c rows u) qs) rest last (steps c rows u q)
      ∙ ap (value_at code t (flat_map (value_if c rows u) qs ++ rest)) (its_turn q u last is close)
      ∙ keep_if u rest qs (rest_only q qs only)
  found_if u rest (q ∷ qs) (suc k) d last below is only close =
      one_given q u (flat_map (value_if c rows u) qs) rest last (steps c rows u q)
      ∙ found_if u rest qs k d (after (steps c rows u q) q u last) (omega arith) is (rest_only q qs only)
      (near_after q u last (steps c rows u q) (only 0 q (omega arith)) close)

  -- ---- tick by tick

  time_on : (u : ℕ) (cs : List Command) (last : List Bool) → u ≤ t → value_at code t (Time u ∷ cs) last ≡ value_at code t cs last
  time_on u cs last early =
      let on : nat_le u t ≡ true = search (rules, tests) in
      ap (λ (b : Bool). if b then value_at code t cs last else last) on

  time_past : (u : ℕ) (cs : List Command) (last : List Bool) → t < u → value_at code t (Time u ∷ cs) last ≡ last
  time_past u cs last late =
      let past : nat_le u t ≡ false = search (rules, tests) in
      ap (λ (b : Bool). if b then value_at code t cs last else last) past

  -- it is among all
  record IsAt (ss : List Stretch) : Type 0 where
    place : ℕ
    default : Stretch
    below : place < length ss
    is : get_or ss place default ≡ s
    only : Only ss

  tick_on : (u : ℕ) (rest : List Command) (ss : List Stretch) → IsAt ss → u ≤ t → (any : Bool) → list_any (steps c rows u) ss ≡ any →
      value_at code t ((if any then Time u ∷ flat_map (value_if c rows u) ss else []) ++ rest) (value s (u - 1)) ≡ value_at code t rest (value s u)
  tick_on u rest ss at early true any =
      time_on u (flat_map (value_if c rows u) ss ++ rest) (value s (u - 1)) early
      ∙ found_if u rest ss at.place at.default (value s (u - 1)) at.below at.is at.only (inl refl)
  tick_on u rest ss at early false none =
      let still : steps c rows u s ≡ false =
      subst (λ (q : Stretch). steps c rows u q ≡ false) at.is (none_of (steps c rows u) ss at.place at.default at.below none) in
      ap (value_at code t rest) (unchanged c rows u s.from (s.to - s.from) still)

  tick_past : (u : ℕ) (rest : List Command) (ss : List Stretch) (last : List Bool) → t < u → value_at code t rest last ≡ last → (any : Bool) →
      value_at code t ((if any then Time u ∷ flat_map (value_if c rows u) ss else []) ++ rest) last ≡ last
  tick_past u rest ss last late same true = time_past u (flat_map (value_if c rows u) ss ++ rest) last late
  tick_past u rest ss last late same false = same

  past : (n u end : ℕ) (ss : List Stretch) (last : List Bool) → t < u → t < end → value_at code t (later_commands c rows ss u n ++ Time end ∷ []) last ≡ last
  past zero u end ss last late after = time_past end [] last after
  past (suc n) u end ss last late after =
      ap (λ (cs : List Command). value_at code t cs last) (append_assoc (tick_commands c rows ss u) (later_commands c rows ss (u + 1) n) (Time end ∷ []))
      ∙ tick_past u (later_commands c rows ss (u + 1) n ++ Time end ∷ []) ss last late (past n (u + 1) end ss last (omega arith) after)
      (list_any (steps c rows u) ss)

  ticks_on : (n u end : ℕ) (ss : List Stretch) → IsAt ss → u ≤ t + 1 → t < u + n → t < end →
      value_at code t (later_commands c rows ss u n ++ Time end ∷ []) (value s (u - 1)) ≡ value s t
  ticks_on zero u end ss at early some after =
      time_past end [] (value s (u - 1)) after ∙ ap (value s) (omega arith)
  ticks_on (suc n) u end ss at early some after = by (nat_le u t) refl (ticks_on n (u + 1) end ss at)
    where
      by : (here : Bool) → nat_le u t ≡ here →
          (u + 1 ≤ t + 1 → t < u + 1 + n → t < end → value_at code t (later_commands c rows ss (u + 1) n ++ Time end ∷ []) (value s (u + 1 - 1)) ≡ value s t) →
          value_at code t ((tick_commands c rows ss u ++ later_commands c rows ss (u + 1) n) ++ Time end ∷ []) (value s (u - 1)) ≡ value s t
      by true on further =
          let here : u ≤ t = search (rules, tests) in
          let rest = later_commands c rows ss (u + 1) n ++ Time end ∷ [] in
          ap (λ (cs : List Command). value_at code t cs (value s (u - 1))) (append_assoc (tick_commands c rows ss u) (later_commands c rows ss (u + 1) n) (Time end ∷ []))
          ∙ tick_on u (later_commands c rows ss (u + 1) n ++ Time end ∷ []) ss at here (list_any (steps c rows u) ss) refl
          ∙ ap (λ (v : ℕ). value_at code t (later_commands c rows ss (u + 1) n ++ Time end ∷ []) (value s v)) (omega arith)
          ∙ further (omega arith) (omega arith) after
      by false off further =
          let gone : t < u = search (rules, tests) in
          past (suc n) u end ss (value s (u - 1)) gone after ∙ ap (value s) (omega arith)

  all_values : (ticks : ℕ) → IsAt (stretches c) → t < ticks → value_at code t (changes c rows ticks) [] ≡ value s t
  unfolding changes start_commands
  all_values ticks at below =
      time_on 0 (Start ∷ ((map (value_of c rows 0) (stretches c) ++ End ∷ []) ++ (later_commands c rows (stretches c) 1 (ticks - 1) ++ Time ticks ∷ []))) [] (omega arith)
      ∙ ap (λ (cs : List Command). value_at code t cs []) (append_assoc (map (value_of c rows 0) (stretches c)) (End ∷ []) (later_commands c rows (stretches c) 1 (ticks - 1) ++ Time ticks ∷ []))
      ∙ found_all 0 (End ∷ (later_commands c rows (stretches c) 1 (ticks - 1) ++ Time ticks ∷ [])) (stretches c) at.place at.default [] at.below at.is at.only
      ∙ ticks_on (ticks - 1) 1 ticks (stretches c) at (omega arith) (omega arith) below

-- ---- no other stretch has its code

few : (c : Circuit) (s : Stretch) (place more : ℕ) → length (cut c s place more) ≤ suc more
few c s place zero = omega arith
few c s place (suc more) = by (follows c place) (few c (longer s place) (place + 1) more) (few c (next s place) (place + 1) more)
  where
    by : (goes : Bool) → length (cut c (longer s place) (place + 1) more) ≤ suc more → length (cut c (next s place) (place + 1) more) ≤ suc more →
        length (if goes then cut c (longer s place) (place + 1) more else s ∷ cut c (next s place) (place + 1) more) ≤ suc (suc more)
    by true a b = omega arith
    by false a b = omega arith

all_few : (c : Circuit) (count : ℕ) → length (cut_all c count) ≤ count
all_few c zero = omega arith
all_few c (suc more) = few c first 1 more

number_is : (c : Circuit) (k : ℕ) (d : Stretch) → k < length (stretches c) → (get_or (stretches c) k d).number ≡ k
number_is c k d below =
    let are = stretches_are c in
    let numbers = get_or-map (λ (q : Stretch). q.number) (stretches c) k d d.number below in
    sym numbers ∙ ap (λ (l : List ℕ). get_or l k d.number) are.numbered
    ∙ get_or-range_with_len 0 (length (stretches c)) k d.number below ∙ zero-add k

only_one : (c : Circuit) (k : ℕ) (d : Stretch) → IsCircuit c → k < length (stretches c) →
    All (λ (q : Stretch). bytes_eq (code_of q.number) (code_of (get_or (stretches c) k d).number) ≡ true → q ≡ get_or (stretches c) k d) (stretches c)
only_one c k d known below j e under same =
    let few_nets = known.few_nets in
    let fewer = all_few c (length c.nets) in
    let codes = (bytes_eq-Decides (code_of (get_or (stretches c) j e).number) (code_of (get_or (stretches c) k d).number)).0 same in
    let mine = number_is c k d below in
    let other = number_is c j e under in
    let numbers = codes_differ (get_or (stretches c) j e).number (get_or (stretches c) k d).number (omega (arith, other, few_nets, fewer)) (omega (arith, mine, few_nets, fewer)) codes in
    let places : j ≡ k = sym other ∙ numbers ∙ mine in
    ap (λ (i : ℕ). get_or (stretches c) i e) places ∙ get_or_default (stretches c) k e d below

pub bits_come_back : BitsComeBack
bits_come_back c rows ticks t k d known here below =
    all_values c rows (get_or (stretches c) k d) t ticks (record { place = k; default = d; below = below; is = refl; only = only_one c k d known below }) here
