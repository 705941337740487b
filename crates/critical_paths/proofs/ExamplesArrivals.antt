-- Ways and the search for places, over a period of sixteen slots, worked out on paper.
use Rattle.std.proofs.Common.{◌≡◌, ℕ, zero, suc, Bool, true, false, cond, List, [], ◌∷◌, refl, subst, arith, Option, Some, None, pos, inl, inr}
use Rattle.std.proofs.lemmas.Int.{ints}
use Rattle.scald_base.specs.Clock.{back}
use Rattle.wave_core.specs.Slots.{earlier}
use Rattle.skew_algebra.specs.Wave.{normal, moved}
use Rattle.gate_eval.specs.Hold.{hazard}
use Rattle.element_kinds.specs.declared.kind.Kind.TheVariants.{Buf, Xor}
use Rattle.flat_circuit.specs.declared.instance.Instance.{Instance}
use Rattle.flat_circuit.specs.Circuit.{Circuit}
use Rattle.fixpoint_engine.specs.Waves.{Waves, waves_of}
use Rattle.critical_paths.specs.declared.arrival.Known.{Known}
use Rattle.critical_paths.specs.declared.arrival.Known.TheVariants.{Begun}
use Rattle.critical_paths.specs.declared.arrival.Place.{Place}
use Rattle.critical_paths.specs.declared.direction.Corner.TheVariants.{Late}
use Rattle.critical_paths.specs.declared.direction.Direction.{Direction}
use Rattle.critical_paths.specs.declared.direction.Direction.TheVariants.{Rise, Change}
use Rattle.critical_paths.specs.declared.path.End.TheVariants.{Edge}
use Rattle.critical_paths.specs.declared.path.Node.{Node}
use Rattle.critical_paths.specs.declared.path.Passage.{Passage}
use Rattle.critical_paths.specs.declared.path.Passage.TheVariants.{Through}
use Rattle.critical_paths.specs.declared.path.Word.TheVariants.{Tight}
use Rattle.critical_paths.specs.Known.{node_before}
use Rattle.critical_paths.specs.Reached.{ComesFrom, IsBegin, IsBehind, IsFew, IsFresh, IsSearch, IsWay, StaysAs, ends_within, known_of, same_place, stop_at}
use Rattle.critical_paths.proofs.Behind.{ends_behind}
use Rattle.critical_paths.proofs.Circuits.{bounds, circuit, clock, driven, element, input, pin, wave}
use Rattle.critical_paths.proofs.Places.{place_is}

abbrev place : ℕ → Direction → Place
place net direction = record { clock = 0; net = net; direction = direction; corner = Late }

-- ---- a clock, and a buffer of 2 to 4 ticks after it

abbrev buffer : Instance
buffer = element Buf (bounds 2 4) (pin 0 ∷ [])

abbrev buffered : Circuit
buffered = circuit (input (clock 0 8 (0, 0)) ∷ driven 0 ∷ []) (buffer ∷ [])

abbrev waves : Waves
waves = waves_of (wave "R1111111F0000000" ∷ wave "00RRR11111FFF000" ∷ [])

-- CK rises at 0
abbrev first : Node
first =
    record {
      stop = stop_at buffered (place 0 Rise) (pos 0);
      passage = None;
      next = 0;
      count = 1;
      end = Edge;
      source = 0;
      age = pos 0;
    }

-- and what the buffer drives at 4 at last
abbrev second : Node
second = node_before (stop_at buffered (place 1 Rise) (pos 4)) (Through 0 0 4 Tight) 0 first

begins : IsBegin buffered waves (place 0 Rise) (pos 0, pos 0) first
unfolding back earlier moved normal hazard
begins = record {
  input = refl;
  clock = refl;
  event = refl;
  stop = refl;
  count = refl;
  age = refl;
  edge = refl;
  near = record { low = omega (arith, ints); high = omega (arith, ints) };
  short = record { low = omega (arith, ints); high = omega (arith, ints) };
}

comes_on : ComesFrom buffered waves (first ∷ []) (place 1 Rise) (pos 0, pos 4) second
    (place 0 Rise, Through 0 0 4 Tight) (pos 0, pos 0) first
unfolding back earlier moved normal hazard
comes_on = record {
  through = record { element = buffer; pin = 0; driven = refl; at = refl };
  time = refl;
  short = record { low = omega (arith, ints); high = omega (arith, ints) };
  event = refl;
  next = refl;
  node = refl;
}

a_way : IsWay buffered waves (first ∷ []) 2 (place 1 Rise) (pos 0, pos 4) second
a_way = inr (
  (place 0 Rise, Through 0 0 4 Tight),
  ((pos 0, pos 0), (first, comes_on, inl begins)),
)

-- not if the event before is not there
no_event_before : IsWay buffered waves [] 2 (place 1 Rise) (pos 0, pos 4) second → ⊥
no_event_before (inl begin) = absurd (let none = begin.input in cc)
no_event_before (inr on) = absurd (let next = on.1.1.1.next in cc)

-- nor at a tick at which the net does not change
never_then : (n : Node) → IsWay buffered waves (first ∷ []) 2 (place 1 Rise) (pos 0, pos 5) n → ⊥
unfolding back earlier moved normal hazard
never_then n (inl begin) = absurd (let none = begin.input in cc)
never_then n (inr on) = absurd (let event : false ≡ true = on.1.1.1.event in cc)

-- no way has more than two events
few : IsFew buffered waves (place 1 Rise)
unfolding back earlier moved normal hazard
few = record { net = omega arith; most = 2; few = omega arith; ends = refl }

-- and its place is never left begun
never_left : IsSearch buffered waves ((place 1 Rise, Begun) ∷ []) [] → ⊥
never_left s =
    let found = s.ended (place 1 Rise) refl few in
    absurd (let none = found.1.1 in cc)

-- ---- a loop

abbrev turning : Instance
turning = element Xor (bounds 1 1) (pin 0 ∷ pin 1 ∷ [])

abbrev looped : Circuit
looped = circuit (input (clock 0 8 (0, 0)) ∷ driven 0 ∷ []) (turning ∷ [])

abbrev own : Place
own = place 1 Change

abbrev around : Place × Passage
around = (own, Through 1 0 1 Tight)

behind_itself : IsBehind looped own around
behind_itself = record { element = turning; pin = 1; driven = refl; at = refl }

endless : (ws : Waves) (most : ℕ) → ends_within looped ws most own ≡ true → ⊥
endless ws zero ends = absurd (cc)
endless ws (suc most) ends =
    endless ws most (ends_behind looped ws own around behind_itself most ends)

not_few : (ws : Waves) → IsFew looped ws own → ⊥
not_few ws few = endless ws few.most few.ends

-- its place may be left begun
left_begun : (ws : Waves) → IsSearch looped ws ((own, Begun) ∷ []) []
left_begun ws = record {
  chain = λ k f g at next. absurd (cc);
  passed = λ k f at. absurd (cc);
  ended = λ q begun few. absurd (by q (same_place q own) refl begun few);
}
  where
    by : (q : Place) (same : Bool) → same_place q own ≡ same →
        known_of ((own, Begun) ∷ []) q ≡ Some Begun → IsFew looped ws q → ⊥
    by q true same begun few = not_few ws (subst (IsFew looped ws) (place_is q own same) few)
    by q false other begun few =
        let none : ◌≡◌ {A = Option Known} None (Some Begun) =
        subst (λ (b : Bool). cond b (Some Begun) None ≡ Some Begun) other begun in
        absurd (cc)

-- ---- what was known stays

nothing_known : (now : List (Place × Known)) → StaysAs [] now
nothing_known now q some = absurd (cc)

forgotten : StaysAs ((own, Begun) ∷ []) [] → ⊥
forgotten same = absurd (let lost : None ≡ Some Begun = same own refl in cc)

-- the search does not come to a place that was known
known_before : (now : List (Place × Known)) →
    IsFresh ((own, Begun) ∷ []) now (record { place = own; pin = 0 } ∷ []) → ⊥
known_before now s = absurd (let some : true ≡ false = s.fresh 0 _ refl in cc)
