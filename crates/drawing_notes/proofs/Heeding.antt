-- Steps over open pins, found among the readers of a net.
use Rattle.std.proofs.Common.{◌≡◌, ℕ, ◌==◌, Bool, true, false, ◌&&◌, ◌||◌, List, [], ◌∷◌, length, refl, sym, ap, subst, ◌∙◌, arith, slice_get, Option, Some, None}
use Rattle.std.specs.List.{All, list_any, range_with_len}
use Rattle.std.proofs.lemmas.Option.{slice_get_within}
use Rattle.std.proofs.lemmas.Bool.{and_parts, and_from}
use Rattle.element_kinds.specs.declared.kind.Kind.{Kind}
use Rattle.flat_circuit.specs.declared.instance.Pin.{Pin}
use Rattle.flat_circuit.specs.declared.instance.Instance.{Instance}
use Rattle.flat_circuit.proofs.Numbered.{fits_of}
use Rattle.flat_circuit.specs.Instances.{PinExists, is_on, out_of, out_at, readers_of}
use Rattle.flat_circuit.specs.Circuit.{Circuit, IsCircuit, driver, instance_in}
use Rattle.fixpoint_engine.specs.Waves.{Waves}
use Rattle.fixpoint_engine.specs.Work.{hears_in}
use Rattle.fixpoint_engine.specs.Worklist.{drives_in}
use Rattle.fixpoint_engine.proofs.Listening.{heard_by_reader}
use Rattle.fixpoint_engine.specs.Settled.{marked_in}
use Rattle.drawing_notes.specs.Passing.{AreHeld, is_heard, keeps_at, keeps_mark, opens_at, opens_by, opens_on}
use Rattle.drawing_notes.specs.Paths.{leads_in, passes_on}
use Rattle.drawing_notes.specs.Pins.{passes}
use Rattle.drawing_notes.specs.Search.{opens_to}
use Rattle.drawing_notes.proofs.Arriving.{pin_among}
use Rattle.drawing_notes.proofs.Stepping.{any_guarded, drives_on, passes_hears}

-- some number of a list passes
record SomeOf (p : ℕ → Bool) : Type 0 where
  at : ℕ
  is : p at ≡ true

some_of : (p : ℕ → Bool) (xs : List ℕ) → list_any p xs ≡ true → SomeOf p
some_of p [] is = absurd cc
some_of p (x ∷ xs) is = by (p x) refl (some_of p xs)
  where
    by : (b : Bool) → p x ≡ b → (list_any p xs ≡ true → SomeOf p) → SomeOf p
    by true here rest = record { at = x; is = here }
    by false none rest = rest (sym (ap (λ b. b || list_any p xs) none) ∙ is)

-- an open pin on a net is a pin on it
open_on : (held : Bool) (ws : Waves) (i : ℕ) (j : Instance) (place : ℕ) (o : Option Pin) → slice_get j.pins place ≡ o → opens_at held ws i j place o ≡ true →
    list_any (λ (p : Pin). is_on i p.target) j.pins ≡ true
open_on held ws i j place None at is = absurd cc
open_on held ws i j place (Some p) at is = pin_among (λ (q : Pin). is_on i q.target) j.pins place p at (and_parts (is_on i p.target) _ is).0

opens_passes : (c : Circuit) (ws : Waves) (i : ℕ) (d : Option Instance) → opens_on c ws i d ≡ true → passes_on i d ≡ true
opens_passes c ws i None is = absurd cc
opens_passes c ws i (Some j) is =
    let both = and_parts (passes j.kind) (opens_by (keeps_mark c ws j) ws i j) is in
    let some = some_of (λ place. opens_at (keeps_mark c ws j) ws i j place (slice_get j.pins place)) (range_with_len 0 (length j.pins)) both.1 in
    and_from _ _ both.0 (open_on (keeps_mark c ws j) ws i j some.at (slice_get j.pins some.at) refl some.is)

opens_hears : (c : Circuit) (ws : Waves) (i : ℕ) (d : Option Instance) → opens_on c ws i d ≡ true → hears_in (λ j. i == j) d ≡ true
opens_hears c ws i d is = (and_parts _ (hears_in (λ j. i == j) d) (sym (passes_hears i d) ∙ opens_passes c ws i d is)).1

and_same : (b h : Bool) → (b ≡ true → h ≡ true) → (b && h) ≡ b
and_same true h then_ = then_ refl
and_same false h then_ = refl

opens_drives : (c : Circuit) (ws : Waves) (net i : ℕ) (o : Option Instance) → opens_to c ws net o i ≡ (opens_on c ws net o && drives_in (out_of o) i)
opens_drives c ws net i None = refl
opens_drives c ws net i (Some j) = refl

-- A net leads in a case to what those of its readers drive that have an open pin on it.
pub opened_by_readers : (c : Circuit) (ws : Waves) (net i : ℕ) → IsCircuit c →
    list_any (λ k. opens_to c ws net (slice_get c.instances k) i) (readers_of c.instances net) ≡ leads_in c ws net i
opened_by_readers c ws net i known =
    (λ t. list_any (λ k. opens_drives c ws net i (slice_get c.instances k) t) (readers_of c.instances net))
    ∙ any_guarded (λ k. opens_on c ws net (slice_get c.instances k)) (λ k. drives_in (out_at c.instances k) i) (opens_on c ws net (driver c i))
    (readers_of c.instances net) one
    ∙ ap (λ b. opens_on c ws net (driver c i) && b) (heard_by_reader c net i known)
    ∙ and_same (opens_on c ws net (driver c i)) (hears_in (λ j. net == j) (driver c i)) (opens_hears c ws net (driver c i))
  where
    one : (k : ℕ) → drives_in (out_at c.instances k) i ≡ true → opens_on c ws net (slice_get c.instances k) ≡ opens_on c ws net (driver c i)
    one k drives = ap (λ d. opens_on c ws net (instance_in c d)) (sym (known.drivers.of i k (drives_on (out_at c.instances k) i drives)))

-- ---- by what is known of a case

-- which pins of an instance exist
pub pins_exist : (c : Circuit) (n : ℕ) (k : ℕ) (j : Instance) → IsCircuit c → slice_get c.instances k ≡ Some j → n ≡ length c.nets → All (PinExists n) j.pins
pins_exist c n k j known at long = subst (λ m. All (PinExists m) j.pins) (sym long) (fits_of c k j known at).exists.reads

module _ (c : Circuit) (ws : Waves) (held : List Bool) (marks : AreHeld c ws held) (k : ℕ) (j : Instance) (at : slice_get c.instances k ≡ Some j) where
  pub held_there : marked_in held k ≡ keeps_mark c ws j
  held_there = marks k (slice_get_within c.instances k j at) ∙ ap (keeps_at c ws) at

  pub opens_where : (i : ℕ) (b : Bool) → b ≡ marked_in held k → passes j.kind ≡ true → opens_by b ws i j ≡ opens_on c ws i (Some j)
  opens_where i b same gate = λ t. sym gate t && opens_by ((same ∙ held_there) t) ws i j
