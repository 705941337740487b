-- Runs, as they are written from change to change.
use Rattle.std.proofs.Common.{◌≡◌, ℕ, zero, suc, ◌+◌, ◌-◌, ◌<◌, ◌≤◌, Bool, true, false, List, [], ◌∷◌, ◌++◌, length, drop, replicate, slice_get, Some, append-nil, refl, arith, sym, ap, ◌∙◌, subst}
use Rattle.std.specs.Prelude.{if◌then◌else◌}
use Rattle.std.specs.List.{flat_map}
use Rattle.wave_core.specs.Slots.{SameUntil}
use Rattle.step_values.specs.declared.value.Value.{Value}
use Rattle.step_values.specs.Cell.{same}
use Rattle.step_values.specs.Lawful.{same_means, values_lawful}
use Rattle.listing.specs.Text.{HasPart}
use Rattle.std.proofs.lemmas.Bool.{true≢false}
use Rattle.std.proofs.lemmas.List.Elements.{All-cons, All-nil}
use Rattle.listing.specs.Run.{AreRuns, Differ, Run, lengthened, runs, run_text, spelled}
use Rattle.listing.proofs.Parts.{Lacks, lacks_less, lacks_none, part_of_rest}

abbrev pub run : Value → ℕ → Run
run v n = record { value = v; width = n }

-- the runs that follow so many slots of one value
abbrev pub continued : Value → ℕ → List Run → List Run
continued v n [] = run v n ∷ []
continued v n (r ∷ rs) = if same v r.value then run v (n + r.width) ∷ rs else run v n ∷ r ∷ rs

self_same : (v : Value) → same v v ≡ true
self_same v = values_lawful.same_self v

-- ---- a slot of the same value, and one of another

grown : (v : Value) (n : ℕ) (s : List Run) → continued v n (lengthened v s) ≡ continued v (n + 1) s
grown v n [] = ap (λ b. if b then run v (n + 1) ∷ [] else run v n ∷ run v 1 ∷ []) (self_same v)
grown v n (r ∷ rs) =
    elim (same v r.value) as (λ t. continued v n (if t then run v (suc r.width) ∷ rs else run v 1 ∷ r ∷ rs) ≡ (if t then run v (n + 1 + r.width) ∷ rs else run v (n + 1) ∷ r ∷ rs)) [
      | true ↦ ap (λ b. if b then run v (n + suc r.width) ∷ rs else run v n ∷ run v (suc r.width) ∷ rs) (self_same v) ∙ ap (λ m. run v m ∷ rs) (omega arith)
      | false ↦ ap (λ b. if b then run v (n + 1) ∷ r ∷ rs else run v n ∷ run v 1 ∷ r ∷ rs) (self_same v)
    ]

first_slot : (v : Value) (s : List Run) → continued v 1 s ≡ lengthened v s
first_slot v [] = refl
first_slot v (r ∷ rs) =
    elim (same v r.value) as (λ t. (if t then run v (1 + r.width) ∷ rs else run v 1 ∷ r ∷ rs) ≡ (if t then run v (suc r.width) ∷ rs else run v 1 ∷ r ∷ rs)) [
      | true ↦ ap (λ m. run v m ∷ rs) (omega arith)
      | false ↦ refl
    ]

ended : (v x : Value) (n : ℕ) (s : List Run) → same v x ≡ false → continued v n (lengthened x s) ≡ run v n ∷ lengthened x s
ended v x n [] other = ap (λ b. if b then run v (n + 1) ∷ [] else run v n ∷ run x 1 ∷ []) other
ended v x n (r ∷ rs) other =
    elim (same x r.value) as (λ t. continued v n (if t then run x (suc r.width) ∷ rs else run x 1 ∷ r ∷ rs) ≡ run v n ∷ (if t then run x (suc r.width) ∷ rs else run x 1 ∷ r ∷ rs)) [
      | true ↦ ap (λ b. if b then run v (n + suc r.width) ∷ rs else run v n ∷ run x (suc r.width) ∷ rs) other
      | false ↦ ap (λ b. if b then run v (n + 1) ∷ r ∷ rs else run v n ∷ run x 1 ∷ r ∷ rs) other
    ]

-- ---- the slots of a wave

drop_got : {X : Type 0} (xs : List X) (i : ℕ) (x : X) → slice_get xs i ≡ Some x → drop i xs ≡ x ∷ drop (suc i) xs
drop_got [] i x got = cc
drop_got (y ∷ ys) zero x got = cc
drop_got (y ∷ ys) (suc i) x got = drop_got ys i x got

drop_past : {X : Type 0} (xs : List X) (i : ℕ) → length xs ≤ i → drop i xs ≡ []
drop_past [] zero past = refl
drop_past [] (suc i) past = refl
drop_past (x ∷ xs) zero past = absurd (omega arith)
drop_past (x ∷ xs) (suc i) past = drop_past xs i (omega arith)

-- the runs from a slot on whose value some slots in a row have
together : (cells : List Value) (v : Value) (i n : ℕ) → ((p : ℕ) → i ≤ p → p < i + (n + 1) → slice_get cells p ≡ Some v) →
    runs (drop i cells) ≡ continued v (n + 1) (runs (drop (i + (n + 1)) cells))
together cells v i zero all =
    ap runs (drop_got cells i v (all i (omega arith) (omega arith)))
    ∙ sym (first_slot v (runs (drop (suc i) cells)))
    ∙ (let one : 1 ≡ 0 + 1 = omega arith in let next : suc i ≡ i + (0 + 1) = omega arith in λ j. continued v (one j) (runs (drop (next j) cells)))
together cells v i (suc n) all =
    let more : suc (n + 1) ≡ n + 1 + 1 = omega arith in
    together cells v i n (λ p from below. all p from (omega (arith, below)))
    ∙ ap (λ (vs : List Value). continued v (n + 1) (runs vs)) (drop_got cells (i + (n + 1)) v (all (i + (n + 1)) (omega arith) (omega arith)))
    ∙ grown v (n + 1) (runs (drop (suc (i + (n + 1))) cells))
    ∙ (let wide : n + 1 + 1 ≡ suc n + 1 = omega arith in let next : suc (i + (n + 1)) ≡ i + (suc n + 1) = omega arith in
    λ j. continued v (wide j) (runs (drop (next j) cells)))

data Test (b : Bool) : Type 0 where
  Yes : b ≡ true → Test b
  No : b ≡ false → Test b

test : (b : Bool) → Test b
test true = Yes refl
test false = No refl

not_same : (v x : Value) → (v ≡ x → ⊥) → same v x ≡ false
not_same v x other =
    elim (test (same v x)) [
      | Yes h ↦ absurd (other (same_means v x h))
      | No h ↦ h
    ]

-- another value, or none, follows
apart : (cells : List Value) (v : Value) (n end : ℕ) → (end < length cells → slice_get cells end ≡ Some v → ⊥) →
    continued v n (runs (drop end cells)) ≡ run v n ∷ runs (drop end cells)
apart [] v n zero other = refl
apart [] v n (suc end) other = refl
apart (x ∷ xs) v n zero other = ended v x n (runs xs) (not_same v x (λ e. other (omega arith) (ap Some (sym e))))
apart (x ∷ xs) v n (suc end) other = apart xs v n end (λ below is. other (omega (arith, below)) is)

-- what is still to be written from a slot on
abbrev pub rest_text : List Value → ℕ → List ℕ
rest_text cells i = flat_map run_text (runs (drop i cells))

-- the run that begins there, up to the change
begins : (cells : List Value) (slot end : ℕ) (v : Value) → slice_get cells slot ≡ Some v → SameUntil cells slot end →
    rest_text cells slot ≡ run_text (run v (end - slot)) ++ rest_text cells end
begins cells slot end v here same =
    let behind : slot < end = same.behind in
    let wide : end - slot - 1 + 1 ≡ end - slot = omega (arith, behind) in
    let next : slot + (end - slot - 1 + 1) ≡ end = omega (arith, behind) in
    ap (flat_map run_text)
    (together cells v slot (end - slot - 1) (λ p from below. same.same p from (omega (arith, below, next)) ∙ here)
    ∙ (λ j. continued v (wide j) (runs (drop (next j) cells)))
    ∙ apart cells v (end - slot) end (λ below is. same.other below (is ∙ sym here)))

pub run_written : (old now new text : List ℕ) (cells : List Value) (slot end : ℕ) (v : Value) → slice_get cells slot ≡ Some v → SameUntil cells slot end →
    new ≡ now ++ run_text (run v (end - slot)) → Lacks old now (rest_text cells slot) text → Lacks old new (rest_text cells end) text
run_written old now new text cells slot end v here same added l =
    lacks_less old now new (run_text (run v (end - slot))) (rest_text cells end) text
    (subst (λ (t : List ℕ). Lacks old now t text) (begins cells slot end v here same) l) added

pub run_stopped : (old now new text : List ℕ) (cells : List Value) (slot end : ℕ) (v : Value) → slice_get cells slot ≡ Some v → SameUntil cells slot end →
    HasPart now new (run_text (run v (end - slot))) → Lacks old now (rest_text cells slot) text → HasPart old new text
run_stopped old now new text cells slot end v here same h l =
    part_of_rest old now new (run_text (run v (end - slot))) (rest_text cells end) text
    (subst (λ (t : List ℕ). Lacks old now t text) (begins cells slot end v here same) l) h

-- nothing is left after the last slot
pub all_written : (old now text : List ℕ) (cells : List Value) (slot : ℕ) → length cells ≤ slot → Lacks old now (rest_text cells slot) text → now ≡ old ++ text
all_written old now text cells slot past l =
    let none : rest_text cells slot ≡ [] = ap (λ (vs : List Value). flat_map run_text (runs vs)) (drop_past cells slot past) in
    lacks_none old now now [] text (subst (λ (t : List ℕ). Lacks old now t text) none l) (sym (append-nil now))

-- ---- what runs are

if_true : {X : Type 0} (b : Bool) (x y : X) → b ≡ true → (if b then x else y) ≡ x
if_true b x y is = ap (λ t. if t then x else y) is

if_false : {X : Type 0} (b : Bool) (x y : X) → b ≡ false → (if b then x else y) ≡ y
if_false b x y is = ap (λ t. if t then x else y) is

differ_head : (r q : Run) (rs : List Run) → r.value ≡ q.value → Differ (r ∷ rs) → Differ (q ∷ rs)
differ_head r q [] one d = tt
differ_head r q (p ∷ rs) one d = ((λ e. d.0 (one ∙ e)), d.1)

lengthened_are : (v : Value) (vs : List Value) (s : List Run) → AreRuns vs s → AreRuns (v ∷ vs) (lengthened v s)
lengthened_are v vs [] a = record {
  spell = ap (λ l. v ∷ l) a.spell;
  wide = All-cons (λ (r : Run). 1 ≤ r.width) (run v 1) [] (omega arith) (All-nil (λ (r : Run). 1 ≤ r.width));
  apart = tt;
}
lengthened_are v vs (r ∷ rs) a =
    elim (test (same v r.value)) [
      | Yes h ↦ subst (λ s. AreRuns (v ∷ vs) s) (sym (if_true (same v r.value) (run v (suc r.width) ∷ rs) (run v 1 ∷ r ∷ rs) h)) (record {
        spell = ap (λ x. v ∷ (replicate r.width x ++ spelled rs)) (same_means v r.value h) ∙ ap (λ l. v ∷ l) a.spell;
        wide = All-cons (λ (r : Run). 1 ≤ r.width) (run v (suc r.width)) rs (omega arith) (λ k d within. a.wide (suc k) d (omega arith));
        apart = differ_head r (run v (suc r.width)) rs (sym (same_means v r.value h)) a.apart;
      })
      | No h ↦ subst (λ s. AreRuns (v ∷ vs) s) (sym (if_false (same v r.value) (run v (suc r.width) ∷ rs) (run v 1 ∷ r ∷ rs) h)) (record {
        spell = ap (λ l. v ∷ l) a.spell;
        wide = All-cons (λ (r : Run). 1 ≤ r.width) (run v 1) (r ∷ rs) (omega arith) a.wide;
        apart = ((λ e. true≢false (sym (self_same v) ∙ ap (same v) e ∙ h)), a.apart);
      })
    ]

pub runs_are : (cells : List Value) → AreRuns cells (runs cells)
runs_are [] = record { spell = refl; wide = All-nil (λ (r : Run). 1 ≤ r.width); apart = tt }
runs_are (v ∷ vs) = lengthened_are v vs (runs vs) (runs_are vs)
