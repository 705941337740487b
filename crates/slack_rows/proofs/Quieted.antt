-- The quiet slots up to a slot and after it.
use Rattle.std.proofs.Common.{◌≡◌, ℕ, ◌+◌, ◌-◌, ◌*◌, ◌%◌, ◌<◌, true, false, not, refl, sym, ap, ◌∙◌, arith, List, length, slice_get, Some, None}
use Rattle.std.proofs.Math.Nat.{add-mul-mod_self_right}
use Rattle.step_values.specs.declared.value.Value.{Value}
use Rattle.step_values.specs.Steps.{has, is_quiet}
use Rattle.step_values.specs.Cell.{values}
use Rattle.wave_core.proofs.Places.{round_cell}
use Rattle.fixpoint_engine.specs.Pins.{read}
use Rattle.critical_paths.specs.declared.direction.Direction.TheVariants.{Change}
use Rattle.critical_paths.specs.Event.{Events, events, moves}
use Rattle.slack_rows.specs.Limit.{still_after, still_before}
use Rattle.slack_rows.specs.Window.{ahead}
use Rattle.slack_rows.proofs.Changes.{moving}
use Rattle.slack_rows.proofs.Nothing.{nothing_from}
use Rattle.critical_paths.proofs.Searches.{first_from_is}

module _ (cells : List Value) (p slot : ℕ) (long : p ≡ length cells) where
  abbrev pub changes : Events
  changes = events Change (read cells)

  -- so many slots back
  pub change_back : (k : ℕ) (v : Value) → k < p → slice_get cells ((slot + (p - k)) % p) ≡ Some v →
      changes (ahead p slot - k) ≡ not (is_quiet v)
  change_back k v less there =
      let at : ahead p slot - k ≡ slot + (p - k) + 2 * p = omega (arith, less) in
      let turned : (slot + (p - k)) % p ≡ (ahead p slot - k) % p =
      sym (ap (λ (t : ℕ). t % p) at ∙ add-mul-mod_self_right (slot + (p - k)) 2 p) in
      ap (λ (w : Value). moves Change (has w)) (round_cell values cells p (ahead p slot - k) ((slot + (p - k)) % p) v long turned there) ∙ moving v

  pub still_back : (k : ℕ) → k < p → ((j : ℕ) → j < k → changes (ahead p slot - j) ≡ false) → changes (ahead p slot - k) ≡ true →
      still_before p changes slot ≡ Some k
  still_back k less before here =
      first_from_is (λ n. changes (ahead p slot - n)) p 0 k record {
        from = omega arith;
        below = omega (arith, less);
        passes = here;
        before = λ j from sooner. before j sooner;
      }

  pub never_back : ((j : ℕ) → j < p → changes (ahead p slot - j) ≡ false) → still_before p changes slot ≡ None
  never_back none = nothing_from (λ n. changes (ahead p slot - n)) p 0 (λ j from below. none j (omega (arith, below)))

  -- so many slots on
  pub change_on : (k : ℕ) (v : Value) → slice_get cells ((slot + 1 + k) % p) ≡ Some v → changes (slot + 1 + k) ≡ not (is_quiet v)
  change_on k v there =
      ap (λ (w : Value). moves Change (has w)) (round_cell values cells p (slot + 1 + k) ((slot + 1 + k) % p) v long refl there) ∙ moving v

  pub still_on : (k : ℕ) → k < p → ((j : ℕ) → j < k → changes (slot + 1 + j) ≡ false) → changes (slot + 1 + k) ≡ true →
      still_after p changes slot ≡ Some k
  still_on k less before here =
      first_from_is (λ n. changes (slot + 1 + n)) p 0 k record {
        from = omega arith;
        below = omega (arith, less);
        passes = here;
        before = λ j from sooner. before j sooner;
      }

  pub never_on : ((j : ℕ) → j < p → changes (slot + 1 + j) ≡ false) → still_after p changes slot ≡ None
  never_on none = nothing_from (λ n. changes (slot + 1 + n)) p 0 (λ j from below. none j (omega (arith, below)))
