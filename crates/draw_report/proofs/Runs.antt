-- The runs of a window of a wave, one after the other.
use Rattle.std.proofs.Common.{◌≡◌, ◌≢◌, ℕ, zero, suc, ◌+◌, ◌-◌, ◌<◌, ◌≤◌, true, false, List, [], ◌∷◌, ◌++◌, length, get_or, map, append_assoc, append-nil, refl, arith, ap, sym, subst, ◌∙◌, inl, inr}
use Rattle.std.specs.Prelude.{if◌then◌else◌, ◌*◌, ◌/◌, ◌%◌}
use Rattle.std.specs.List.{range_with_len}
use Rattle.std.proofs.lemmas.Bool.{cases_Bool}
use Rattle.std.proofs.lemmas.Nat.{div-add-mod', mod-mul-add}
use Rattle.std.proofs.lemmas.Option.{slice_get-get_or}
use Rattle.wave_core.specs.Slots.{SameUntil}
use Rattle.step_values.specs.declared.value.Value.{Value}
use Rattle.step_values.specs.declared.value.Value.TheVariants.{U}
use Rattle.step_values.specs.Cell.{same}
use Rattle.step_values.specs.Lawful.{same_means, values_lawful}
use Rattle.listing.specs.Run.{Run, lengthened, runs}
use Rattle.listing.proofs.Runs.{continued, run}
use Rattle.draw_report.specs.declared.run.Placed.{Placed}
use Rattle.draw_report.specs.Wave.{IsRunEnd, cell_at, placed, window}

-- ---- a window, slot by slot

slots_from : (cells : List Value) (from begin count : ℕ) →
    map (λ j. cell_at cells (from + j)) (range_with_len (begin + 1) count)
    ≡ map (λ j. cell_at cells (from + 1 + j)) (range_with_len begin count)
slots_from cells from begin zero = refl
slots_from cells from begin (suc count) =
    (let e : from + (begin + 1) ≡ from + 1 + begin = omega arith in
    ap (λ (n : ℕ). cell_at cells n ∷ map (λ j. cell_at cells (from + j))
    (range_with_len (begin + 1 + 1) count)) e)
    ∙ ap (λ (l : List Value). cell_at cells (from + 1 + begin) ∷ l)
    (slots_from cells from (begin + 1) count)

pub window_more : (cells : List Value) (from count : ℕ) →
    window cells from (suc count) ≡ cell_at cells from ∷ window cells (from + 1) count
window_more cells from count =
    (let e : from + 0 ≡ from = omega arith in
    ap (λ (n : ℕ). cell_at cells n ∷ map (λ j. cell_at cells (from + j)) (range_with_len 1 count))
    e)
    ∙ ap (λ (l : List Value). cell_at cells from ∷ l) (slots_from cells from 0 count)

-- ---- slots of one value in the list of cells, counted on

value_same : (cells : List Value) (from slot end : ℕ) → SameUntil cells from end → from ≤ slot →
    slot < end → get_or cells slot U ≡ get_or cells from U
value_same cells from slot end until after before =
    let within = until.within in
    let there = slice_get-get_or cells slot U (omega (arith, before, within)) in
    let here = slice_get-get_or cells from U (omega (arith, after, before, within)) in
    let same = until.same slot after before in
    cc

turned_same : (cells : List Value) (turns from slot end : ℕ) → SameUntil cells from end →
    from ≤ slot → slot < end → cell_at cells (turns * length cells + slot) ≡ get_or cells from U
turned_same cells turns from slot end until after before =
    let within = until.within in
    ap (λ (n : ℕ). get_or cells n U)
    (mod-mul-add turns (length cells) slot (omega (arith, before, within)))
    ∙ value_same cells from slot end until after before

listed_same : (cells : List Value) (slot end k : ℕ) →
    SameUntil cells (slot % length cells) end → slot ≤ k →
    k < slot - slot % length cells + end → cell_at cells k ≡ cell_at cells slot
listed_same cells slot end k until after before =
    let here = div-add-mod' slot (length cells) in
    let there : k ≡ slot / length cells * length cells + (k - slot / length cells * length cells) =
    omega (arith, here, after) in
    ap (cell_at cells) there
    ∙ turned_same cells (slot / length cells) (slot % length cells)
    (k - slot / length cells * length cells) end until (omega (arith, here, after))
    (omega (arith, here, after, before))

-- where the code has the period, the slot in it and the end by other names
pub listed_by : (cells : List Value) (slot period within listed end k : ℕ) →
    period ≡ length cells → within ≡ slot % period → end ≡ listed →
    SameUntil cells within listed → slot ≤ k → k < slot - slot % period + end →
    cell_at cells k ≡ cell_at cells slot
listed_by cells slot period within listed end k is_period is_within is_end until after before =
    let in_period : within ≡ slot % length cells = is_within ∙ ap (λ (n : ℕ). slot % n) is_period in
    listed_same cells slot listed k (subst (λ (n : ℕ). SameUntil cells n listed) in_period until)
    after (omega (arith, before, is_within, in_period, is_end))

-- ---- one run

not_same : (v x : Value) → (v ≡ x → ⊥) → same v x ≡ false
not_same v x other =
    elim (cases_Bool (same v x)) [
      | inl h ↦ absurd (other (same_means v x h))
      | inr h ↦ h
    ]

self_same : (v : Value) → same v v ≡ true
self_same v = values_lawful.same_self v

-- a slot of the same value makes the run longer, and one of another ends it
grown : (v : Value) (n : ℕ) (s : List Run) → continued v n (lengthened v s) ≡ continued v (n + 1) s
grown v n [] = ap (λ b. if b then run v (n + 1) ∷ [] else run v n ∷ run v 1 ∷ []) (self_same v)
grown v n (r ∷ rs) =
    elim (same v r.value) as (λ t. continued v n
    (if t then run v (suc r.width) ∷ rs else run v 1 ∷ r ∷ rs)
    ≡ (if t then run v (n + 1 + r.width) ∷ rs else run v (n + 1) ∷ r ∷ rs)) [
      | true ↦ ap (λ b. if b then run v (n + suc r.width) ∷ rs else run v n ∷ run v (suc r.width)
          ∷ rs) (self_same v) ∙ ap (λ m. run v m ∷ rs) (omega arith)
      | false ↦ ap (λ b. if b then run v (n + 1) ∷ r ∷ rs else run v n ∷ run v 1 ∷ r ∷ rs)
          (self_same v)
    ]

first_slot : (v : Value) (s : List Run) → continued v 1 s ≡ lengthened v s
first_slot v [] = refl
first_slot v (r ∷ rs) =
    elim (same v r.value) as (λ t. (if t then run v (1 + r.width) ∷ rs else run v 1 ∷ r ∷ rs)
    ≡ (if t then run v (suc r.width) ∷ rs else run v 1 ∷ r ∷ rs)) [
      | true ↦ ap (λ m. run v m ∷ rs) (omega arith)
      | false ↦ refl
    ]

ended : (v x : Value) (n : ℕ) (s : List Run) → same v x ≡ false → continued v n (lengthened x s)
    ≡ run v n ∷ lengthened x s
ended v x n [] other = ap (λ b. if b then run v (n + 1) ∷ [] else run v n ∷ run x 1 ∷ []) other
ended v x n (r ∷ rs) other =
    elim (same x r.value) as (λ t. continued v n
    (if t then run x (suc r.width) ∷ rs else run x 1 ∷ r ∷ rs)
    ≡ run v n ∷ (if t then run x (suc r.width) ∷ rs else run x 1 ∷ r ∷ rs)) [
      | true ↦ ap (λ b. if b then run v (n + suc r.width) ∷ rs else run v n ∷ run x (suc r.width)
          ∷ rs) other
      | false ↦ ap (λ b. if b then run v (n + 1) ∷ r ∷ rs else run v n ∷ run x 1 ∷ r ∷ rs) other
    ]

-- the run that ends there
stopped : (cells : List Value) (v : Value) (n slot count : ℕ) →
    (0 < count → cell_at cells slot ≢ v) →
    continued v n (runs (window cells slot count)) ≡ run v n ∷ runs (window cells slot count)
stopped cells v n slot zero other = refl
stopped cells v n slot (suc count) other =
    ap (λ (l : List Value). continued v n (runs l)) (window_more cells slot count)
    ∙ ended v (cell_at cells slot) n (runs (window cells (slot + 1) count))
    (not_same v (cell_at cells slot) (λ e. other (omega arith) (sym e)))
    ∙ ap (λ (l : List Value). run v n ∷ runs l) (sym (window_more cells slot count))

-- What follows so many slots of a value that goes on for `more` of the `count` slots from one on,
-- is a run of all of them and the runs after it.
pub next_run : (cells : List Value) (v : Value) (n slot more count : ℕ) → more ≤ count →
    ((k : ℕ) → slot ≤ k → k < slot + more → cell_at cells k ≡ v) →
    (more < count → cell_at cells (slot + more) ≢ v) →
    continued v n (runs (window cells slot count))
    ≡ run v (n + more) ∷ runs (window cells (slot + more) (count - more))
next_run cells v n slot zero count within all other =
    let here : slot + 0 ≡ slot = omega arith in
    let none : n ≡ n + 0 = omega arith in
    let rest : count ≡ count - 0 = omega arith in
    stopped cells v n slot count
    (λ some. subst (λ (m : ℕ). cell_at cells m ≢ v) here (other some))
    ∙ ap (λ (m : ℕ). run v m ∷ runs (window cells slot count)) none
    ∙ ap (λ (m : ℕ). run v (n + 0) ∷ runs (window cells m count)) (sym here)
    ∙ ap (λ (m : ℕ). run v (n + 0) ∷ runs (window cells (slot + 0) m)) rest
next_run cells v n slot (suc more) zero within all other = absurd (omega (arith, within))
next_run cells v n slot (suc more) (suc count) within all other =
    let next : slot + 1 + more ≡ slot + suc more = omega arith in
    let long : n + 1 + more ≡ n + suc more = omega arith in
    let rest : count - more ≡ suc count - suc more = omega arith in
    ap (λ (l : List Value). continued v n (runs l)) (window_more cells slot count)
    ∙ ap (λ (x : Value). continued v n (lengthened x (runs (window cells (slot + 1) count))))
    (all slot (omega arith) (omega arith))
    ∙ grown v n (runs (window cells (slot + 1) count))
    ∙ next_run cells v (n + 1) (slot + 1) more count (omega (arith, within))
    (λ k from below. all k (omega (arith, from)) (omega (arith, below)))
    (λ some. subst (λ (m : ℕ). cell_at cells m ≢ v) (sym next) (other (omega (arith, some))))
    ∙ ap (λ (m : ℕ). run v m ∷ runs (window cells (slot + 1 + more) (count - more))) long
    ∙ ap (λ (m : ℕ). run v (n + suc more) ∷ runs (window cells m (count - more))) next
    ∙ ap (λ (m : ℕ). run v (n + suc more) ∷ runs (window cells (slot + suc more) m)) rest

-- the first run of a window, and the runs after it
pub first_run : (cells : List Value) (slot limit end : ℕ) → IsRunEnd cells slot limit end →
    runs (window cells slot (limit - slot))
    ≡ run (cell_at cells slot) (end - slot) ∷ runs (window cells end (limit - end))
first_run cells slot limit end is =
    let later = is.later in
    let within = is.within in
    let some : limit - slot ≡ suc (limit - slot - 1) = omega (arith, later, within) in
    let begin : suc (limit - slot - 1) ≡ limit - slot = omega (arith, later, within) in
    let wide : 1 + (end - slot - 1) ≡ end - slot = omega (arith, later) in
    let there : slot + 1 + (end - slot - 1) ≡ end = omega (arith, later) in
    let left : limit - slot - 1 - (end - slot - 1) ≡ limit - end = omega (arith, later, within) in
    ap (λ (m : ℕ). runs (window cells slot m)) some
    ∙ ap runs (window_more cells slot (limit - slot - 1))
    ∙ sym (first_slot (cell_at cells slot) (runs (window cells (slot + 1) (limit - slot - 1))))
    ∙ next_run cells (cell_at cells slot) 1 (slot + 1) (end - slot - 1) (limit - slot - 1)
    (omega (arith, later, within))
    (λ k from below. is.same k (omega (arith, from)) (omega (arith, below, later)))
    (λ some. subst (λ (m : ℕ). cell_at cells m ≢ cell_at cells slot) (sym there)
    (is.other (omega (arith, some, later, within))))
    ∙ ap (λ (m : ℕ). run (cell_at cells slot) m ∷ runs
    (window cells (slot + 1 + (end - slot - 1)) (limit - slot - 1 - (end - slot - 1)))) wide
    ∙ ap (λ (m : ℕ). run (cell_at cells slot) (end - slot) ∷ runs
    (window cells m (limit - slot - 1 - (end - slot - 1)))) there
    ∙ ap (λ (m : ℕ). run (cell_at cells slot) (end - slot) ∷ runs (window cells end m)) left

-- ---- runs where they are placed, one more

abbrev pub rest_from : List Value → ℕ → ℕ → ℕ → List Placed
rest_from cells from slot limit = placed (slot - from) (runs (window cells slot (limit - slot)))

pub one_placed : (cells : List Value) (from slot limit end : ℕ) (found more all : List Placed)
    (value : Value) → from ≤ slot → IsRunEnd cells slot limit end → value ≡ cell_at cells slot →
    more ≡ found ++ record { value = value; from = slot - from; width = end - slot } ∷ [] →
    found ++ rest_from cells from slot limit ≡ all → more ++ rest_from cells from end limit ≡ all
one_placed cells from slot limit end found more all value inside is value_is added before =
    let later = is.later in
    let p : Placed = record { value = value; from = slot - from; width = end - slot } in
    let next : slot - from + (end - slot) ≡ end - from = omega (arith, inside, later) in
    ap (λ (l : List Placed). l ++ rest_from cells from end limit) added
    ∙ append_assoc found (p ∷ []) (rest_from cells from end limit)
    ∙ ap (λ (l : List Placed). found ++ l)
    (ap (λ (x : Value). record { value = x; from = slot - from; width = end - slot } ∷ rest_from
    cells from end limit) value_is
    ∙ ap (λ (m : ℕ). record { value = cell_at cells slot; from = slot - from; width = end - slot }
    ∷ placed m (runs (window cells end (limit - end)))) (sym next)
    ∙ ap (placed (slot - from)) (sym (first_run cells slot limit end is)))
    ∙ before

pub none_placed : (cells : List Value) (from slot limit : ℕ) (found all : List Placed) →
    limit ≤ slot →
    found ++ rest_from cells from slot limit ≡ all → found ≡ all
none_placed cells from slot limit found all past before =
    let none : 0 ≡ limit - slot = omega (arith, past) in
    sym (append-nil found)
    ∙ ap (λ (m : ℕ). found ++ placed (slot - from) (runs (window cells slot m))) none ∙ before
