-- What a pass over the ticks keeps of those before it decides the tick at hand.
use Rattle.std.proofs.Common.{◌≡◌, ℕ, ◌+◌, Bool, true, false, ◌||◌, Option, ap, sym, ◌∙◌}
use Rattle.std.proofs.lemmas.Bool.{both_ways}
use Rattle.scald_base.specs.Signal.{Signal}
use Rattle.element_kinds.specs.declared.form.Check.{Check}
use Rattle.trace_tool.specs.Pass.{breaks_hold, breaks_setup, last_close, last_step, narrow, opened, opened_by, pulse_ends, step_at, steps, window_ends}
use Rattle.flat_circuit.specs.Limits.{setup_of, hold_of}
use Rattle.flat_circuit.specs.declared.limits.Limits.{Limits}

pub opened_now : (check : Check) (begin : ℕ) (x : Signal) (t : ℕ) (step : Option Bool) (last edge : Option ℕ) → step ≡ step_at begin x t →
    last ≡ last_step begin x t → edge ≡ opened_by check step last t → edge ≡ opened check begin x t
opened_now check begin x t step last edge now before is =
    is ∙ ap (λ s. opened_by check s last t) now ∙ ap (λ l. opened_by check (step_at begin x t) l t) before

pub window_now : (check : Check) (limits : Limits) (begin : ℕ) (x : Signal) (input : ℕ) (y : Signal) (t : ℕ) (edge change close : Option ℕ) (changes ends : Bool) →
    edge ≡ opened check begin x t → change ≡ last_step input y (t + 1) → close ≡ last_close check begin x t → changes ≡ steps input y t →
    ends ≡ (breaks_setup edge change (setup_of limits) || breaks_hold changes close (hold_of limits) t) → ends ≡ window_ends check limits begin x input y t
window_now check limits begin x input y t edge change close changes ends e c l s is =
    is ∙ ap (λ o. breaks_setup o change (setup_of limits) || breaks_hold changes close (hold_of limits) t) e
    ∙ ap (λ o. breaks_setup (opened check begin x t) o (setup_of limits) || breaks_hold changes close (hold_of limits) t) c
    ∙ ap (λ b. breaks_setup (opened check begin x t) (last_step input y (t + 1)) (setup_of limits) || breaks_hold b close (hold_of limits) t) s
    ∙ ap (λ o. breaks_setup (opened check begin x t) (last_step input y (t + 1)) (setup_of limits) || breaks_hold (steps input y t) o (hold_of limits) t) l

pub narrow_now : (limits : Limits) (begin : ℕ) (x : Signal) (t : ℕ) (step : Option Bool) (last : Option ℕ) (ends : Bool) → step ≡ step_at begin x t →
    last ≡ last_step begin x t → ends ≡ narrow limits step last t → ends ≡ pulse_ends limits begin x t
narrow_now limits begin x t step last ends now before is =
    is ∙ ap (λ s. narrow limits s last t) now ∙ ap (λ l. narrow limits (step_at begin x t) l t) before

-- a test that fails does not pass
pub not_now : (ends test : Bool) → ends ≡ test → ends ≡ false → test ≡ true → ⊥
not_now ends test is none some = both_ways test (sym is ∙ none) some
