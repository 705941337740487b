-- Sets that are made one number after the other, each put into the set or left out.
use Rattle.std.proofs.Common.{◌≡◌, ℕ, ◌<◌, ◌≤◌, ◌&&◌, Bool, true, false, not, List, length, replicate, ap, sym, ◌∙◌, arith, inl, inr, is_some, refl, slice_get, Option, Some, None}
use Rattle.std.specs.Prelude.{nat_lt}
use Rattle.std.proofs.lemmas.Bool.{cases_lt}
use Rattle.std.proofs.lemmas.Bool.Decides.{nat_tests}
use Rattle.std.proofs.lemmas.List.{get_or_past, length-replicate}
use Rattle.flat_circuit.specs.Circuit.{Circuit, driver, driver_in, instance_in}
use Rattle.flat_circuit.proofs.Driven.{get_none}
use Rattle.fixpoint_engine.specs.Settled.{marked_in}
use Rattle.fixpoint_engine.specs.Waves.{Waves}
use Rattle.drawing_notes.specs.Doubts.{ArePassable}
use Rattle.drawing_notes.specs.Parts.{part_at, same_part, together}
use Rattle.drawing_notes.specs.Passing.{AreHeld, changes, is_passable, keeps_at}
use Rattle.drawing_notes.specs.Paths.{is_looped}
use Rattle.drawing_notes.specs.Unmarked.{AreGated, is_gated, is_gated_by}
use Rattle.drawing_notes.proofs.Opening.{is_free, on_loop}
use Rattle.drawing_notes.proofs.Stepped.{SteppedTo}

-- whatever was there
abbrev pub chosen : (ℕ → Bool) → ℕ → Bool → Bool
chosen p k before = p k

module _ (p : ℕ → Bool) (n m total : ℕ) (start set : List Bool) (begins : start ≡ replicate m false) (whole : m ≡ total) (past : total ≤ n)
    (is : SteppedTo false (chosen p) start n set) where
  pub marks_long : length set ≡ total
  marks_long = is.long ∙ ap length begins ∙ length-replicate m false ∙ whole

  pub marks_below : (i : ℕ) → i < total → marked_in set i ≡ p i
  marks_below i below = is.before i (omega (arith, below, past))

  -- of a test that no number past the last passes
  pub marks_all : ((i : ℕ) → total ≤ i → p i ≡ false) → (i : ℕ) → marked_in set i ≡ p i
  marks_all none i = elim (cases_lt i total) [
    | inl below ↦ marks_below i below
    | inr beyond ↦ (let long = marks_long in get_or_past set i false (omega (arith, beyond, long))) ∙ sym (none i beyond)
  ]

-- ---- nets that pass something on

pub not_looped : (c : Circuit) (parts : List (Option ℕ)) (ws : Waves) (net : ℕ) (p : Option ℕ) (b steady : Bool) → p ≡ part_at parts net → b ≡ is_some p → net < length c.nets →
    (b ≡ true → false ≡ is_passable c (is_looped (together parts)) ws net)
    × (b ≡ false → steady ≡ changes ws net → steady ≡ is_passable c (is_looped (together parts)) ws net)
not_looped c parts ws net p b steady at some below = (
  λ on. let loop = on_loop parts net p (not b) at (some_of p) (ap not on) in
      sym (ap (λ l. nat_lt net (length c.nets) && (not l && changes ws net)) loop ∙ never (nat_lt net (length c.nets))),
  λ off is. let free = is_free parts net p (not b) at (some_of p) (ap not off) in
      is ∙ sym (ap (λ l. nat_lt net (length c.nets) && (not l && changes ws net)) free ∙ ap (λ t. t && changes ws net) inside),
)
  where
    never : (t : Bool) → (t && false) ≡ false
    never true = refl
    never false = refl

    twice : (t : Bool) → t ≡ not (not t)
    twice true = refl
    twice false = refl

    some_of : (q : Option ℕ) → is_some p ≡ not (not b)
    some_of q = sym some ∙ twice b

    inside : nat_lt net (length c.nets) ≡ true
    inside = grind (arith, nat_tests)

pub passable_all : (c : Circuit) (looped : ℕ → Bool) (ws : Waves) (n m : ℕ) (start set : List Bool) → start ≡ replicate m false → m ≡ length c.nets →
    length c.nets ≤ n → SteppedTo false (chosen (is_passable c looped ws)) start n set → ArePassable c looped ws set
passable_all c looped ws n m start set begins whole past is = record {
  each_net = marks_long (is_passable c looped ws) n m (length c.nets) start set begins whole past is;
  are = marks_all (is_passable c looped ws) n m (length c.nets) start set begins whole past is none;
}
  where
    none : (i : ℕ) → length c.nets ≤ i → is_passable c looped ws i ≡ false
    none i beyond = let no : nat_lt i (length c.nets) ≡ false = grind (arith, nat_tests) in ap (λ b. b && (not (looped i) && changes ws i)) no

-- ---- instances with a mark whose rule holds

pub held_all : (c : Circuit) (ws : Waves) (n m : ℕ) (start set : List Bool) → start ≡ replicate m false → m ≡ length c.instances →
    length c.instances ≤ n → SteppedTo false (chosen (λ k. keeps_at c ws (slice_get c.instances k))) start n set → AreHeld c ws set
held_all c ws n m start set begins whole past is =
    marks_below (λ k. keeps_at c ws (slice_get c.instances k)) n m (length c.instances) start set begins whole past is

-- ---- nets that gates drive

pub gated_all : (c : Circuit) (n m : ℕ) (start set : List Bool) → start ≡ replicate m false → m ≡ length c.nets →
    length c.nets ≤ n → SteppedTo false (chosen (is_gated c)) start n set → AreGated c set
gated_all c n m start set begins whole past is = (
  marks_long (is_gated c) n m (length c.nets) start set begins whole past is,
  marks_all (is_gated c) n m (length c.nets) start set begins whole past is
      (λ i beyond. ap (λ d. is_gated_by (instance_in c (driver_in d))) (get_none c.nets i beyond)),
)
