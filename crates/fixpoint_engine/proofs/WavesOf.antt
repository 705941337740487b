-- The wave of a net in a list, where code reads it, and where it writes one.
use Rattle.std.proofs.Common.{◌≡◌, ℕ, zero, suc, ◌<◌, ◌==◌, Bool, true, false, cond, List, [], ◌∷◌, length, get_or, refl, sym, ap, ◌∙◌, arith}
use Rattle.std.proofs.Math.ListN.{set}
use Rattle.std.proofs.lemmas.Bool.{eqb-true, eqb-false}
use Rattle.std.proofs.lemmas.List.{get_or-set_same, get_or-set_other}
use Rattle.step_values.specs.declared.value.Value.{Value}
use Rattle.skew_algebra.specs.Wave.{Wave, skewed}
use Rattle.fixpoint_engine.specs.Waves.{waves_of}

pub wave_found : (xs : List (Wave Value)) (i n : ℕ) (x : Wave Value) → i < n → length xs ≡ n → x ≡ get_or xs i x → x ≡ waves_of xs i
wave_found [] i n x below long is = absurd (omega arith)
wave_found (y ∷ xs) zero n x below long is = is
wave_found (y ∷ xs) (suc i) n x below long is = wave_found xs i (length xs) x (omega arith) refl is

pub set_at : (waves : List (Wave Value)) (net i : ℕ) (w : Wave Value) → net < length waves → waves_of (set waves net w) i ≡ cond (net == i) w (waves_of waves i)
set_at waves net i w below = by (net == i) refl
  where
    by : (here : Bool) → (net == i) ≡ here → waves_of (set waves net w) i ≡ cond here w (waves_of waves i)
    by true e = ap (waves_of (set waves net w)) (sym (eqb-true net i e)) ∙ get_or-set_same waves net w (skewed [] 0) below
    by false e = get_or-set_other waves net i w (skewed [] 0) (λ same. eqb-false net i e (sym same))
