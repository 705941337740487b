-- A circuit has its loops, its arrivals, its launches and what its clocks reach in one way.
use Rattle.std.proofs.Common.{◌≡◌, ℕ, ◌<◌, ◌≤◌, ◌⊎◌, inl, inr, Bool, List, ap, sym, subst, refl, arith, Option, Some, None}
use Rattle.std.specs.Cmp.{both_ways}
use Rattle.flat_circuit.specs.Circuit.{Circuit}
use Rattle.fixpoint_engine.specs.Waves.{Waves}
use Rattle.timing_analysis.specs.Case.{Case}
use Rattle.drawing_notes.specs.declared.launched.Arrival.{Arrival}
use Rattle.drawing_notes.specs.Passing.{is_passable}
use Rattle.drawing_notes.specs.Paths.{AreLatest, Comes, TellsLaunches, TellsLoops, is_looped, is_started, leads, leads_in}
use Rattle.drawing_notes.specs.Unmarked.{is_clock, is_gated, is_timing}
use Rattle.drawing_notes.specs.Ways.{Ways, AreWays}
use Rattle.drawing_notes.proofs.ByClock.{one_found}

one_together : (c : Circuit) (t u : ℕ → ℕ → Bool) → TellsLoops c t → TellsLoops c u → (i j : ℕ) → t i j ≡ u i j
one_together c t u tells other i j = both_ways (t i j) (u i j) (λ is. (other i j).1 ((tells i j).0 is)) (λ is. (tells i j).1 ((other i j).0 is))

one_launched : (c : Circuit) (looped : ℕ → Bool) (ws : Waves) (t u : ℕ → ℕ → Bool) → TellsLaunches c looped ws t → TellsLaunches c looped ws u →
    (clock net : ℕ) → t clock net ≡ u clock net
one_launched c looped ws t u tells other clock =
    one_found (leads_in c ws) (is_passable c looped ws) (is_started c looped ws clock) (t clock) (u clock) (tells clock) (other clock)

-- two arrivals, neither of which is after the other
same_arrival : (a b : Arrival) → (b.ticks < a.ticks) ⊎ ((b.ticks ≡ a.ticks) × (a.storage ≤ b.storage)) →
    (a.ticks < b.ticks) ⊎ ((a.ticks ≡ b.ticks) × (b.storage ≤ a.storage)) → a ≡ b
same_arrival a b first second =
    let ticks : a.ticks ≡ b.ticks = elim first [
      | inl less ↦ elim second [ inl more ↦ absurd (omega (arith, less, more)) | inr same ↦ same.0 ]
      | inr same ↦ sym same.0
    ] in
    let storage : a.storage ≡ b.storage = elim first [
      | inl less ↦ absurd (omega (arith, less, ticks))
      | inr one ↦ elim second [
        | inl more ↦ absurd (omega (arith, more, ticks))
        | inr other ↦ (let e = one.1 in let f = other.1 in omega (arith, e, f))
      ]
    ] in
    λ k. record { ticks = ticks k; storage = storage k }

pub one_latest : (P : ℕ → ℕ → Type 0) (a b : Option Arrival) → AreLatest P a → AreLatest P b → a ≡ b
one_latest P None None is other = refl
one_latest P None (Some b) is other = absurd (is b.storage b.ticks other.comes)
one_latest P (Some a) None is other = absurd (other a.storage a.ticks is.comes)
one_latest P (Some a) (Some b) is other =
    ap Some (same_arrival a b (is.latest b.storage b.ticks other.comes) (other.latest a.storage a.ticks is.comes))

pub one_way : (c : Circuit) (cases : List Case) (a b : Ways) → AreWays c cases a → AreWays c cases b → a ≡ b
one_way c cases a b is other = λ k. record {
  together = λ i j. same_loops i j k;
  arrival = λ net. one_latest (Comes c (is_looped a.together) cases net) (a.arrival net) (b.arrival net) (is.arrivals net) (there net) k;
  launched = λ ws clock net. one_launched c (is_looped a.together) ws (a.launched ws) (b.launched ws) (is.launches ws) (launches ws) clock net k;
  clocks = λ net. one_found (leads c) (is_gated c) (is_clock c) a.clocks b.clocks is.clocks other.clocks net k;
  timed = λ net. one_found (λ from i. leads c i from) (is_gated c) (is_timing c) a.timed b.timed is.timed other.timed net k;
}
  where
    same_loops : (i j : ℕ) → a.together i j ≡ b.together i j
    same_loops i j = one_together c a.together b.together is.loops other.loops i j

    same_looped : is_looped b.together ≡ is_looped a.together
    same_looped = λ k i. sym (same_loops i i) k

    there : (net : ℕ) → AreLatest (Comes c (is_looped a.together) cases net) (b.arrival net)
    there net = subst (λ (looped : ℕ → Bool). AreLatest (Comes c looped cases net) (b.arrival net)) same_looped (other.arrivals net)

    launches : (ws : Waves) → TellsLaunches c (is_looped a.together) ws (b.launched ws)
    launches ws = subst (λ (looped : ℕ → Bool). TellsLaunches c looped ws (b.launched ws)) same_looped (other.launches ws)
