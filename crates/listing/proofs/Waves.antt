-- The line of a net's wave, as it is put together.
use Rattle.std.proofs.Common.{◌≡◌, ℕ, ◌<◌, List, [], ◌∷◌, ◌++◌, length, get_or, refl, codes, decimal, append_assoc, append-nil, arith, sym, ap, ◌∙◌}
use Rattle.std.proofs.lemmas.List.{length-map}
use Rattle.step_values.specs.declared.value.Value.{Value}
use Rattle.skew_algebra.specs.Wave.{Wave, skewed}
use Rattle.flat_circuit.specs.Circuit.{Circuit, net_name, net_names}
use Rattle.flat_circuit.specs.Name.{IsNameOrder, net_at}
use Rattle.flat_circuit.proofs.Names.{order_in}
use Rattle.fixpoint_engine.specs.Waves.{waves_of}
use Rattle.fixpoint_engine.proofs.WavesOf.{wave_found}
use Rattle.listing.specs.Text.{line}
use Rattle.listing.specs.Names.{net_text}
use Rattle.listing.specs.Run.{runs_text}
use Rattle.listing.specs.Wave.{wave_line}

-- what stands before the runs
abbrev pub before_runs : List ℕ → ℕ → List ℕ
before_runs name skew = codes "WAVE " ++ (name ++ (codes " SKEW " ++ (decimal skew ++ [])))

regrouped : (a b c d e t : List ℕ) → ((a ++ (b ++ (c ++ (d ++ [])))) ++ e) ++ t ≡ (a ++ (b ++ (c ++ (d ++ (e ++ []))))) ++ t
regrouped a b c d e t = simp (append_assoc, append-nil)

pub wave_line_is : (c : Circuit) (waves : ℕ → Wave Value) (i : ℕ) (name : List ℕ) (skew : ℕ) (cells : List Value) → name ≡ net_text c i → waves i ≡ skewed cells skew →
    (before_runs name skew ++ runs_text cells) ++ 10 ∷ [] ≡ wave_line c waves i
unfolding wave_line
wave_line_is c waves i name skew cells named is =
    regrouped (codes "WAVE ") name (codes " SKEW ") (decimal skew) (runs_text cells) (10 ∷ [])
    ∙ ap (λ (text : List ℕ). line (codes "WAVE " ∷ text ∷ codes " SKEW " ∷ decimal skew ∷ runs_text cells ∷ [])) named
    ∙ ap (λ (w : Wave Value). line (codes "WAVE " ∷ net_text c i ∷ codes " SKEW " ∷ decimal w.skew ∷ runs_text w.cells ∷ [])) (sym is)

-- the line of the wave that a net has in a list
pub line_of : (c : Circuit) (xs : List (Wave Value)) (i : ℕ) (x : Wave Value) (name : List ℕ) (skew : ℕ) (cells : List Value) →
    i < length xs → x ≡ get_or xs i x → name ≡ net_text c i → skew ≡ x.skew → cells ≡ x.cells →
    (before_runs name skew ++ runs_text cells) ++ 10 ∷ [] ≡ wave_line c (waves_of xs) i
line_of c xs i x name skew cells within is named late same =
    wave_line_is c (waves_of xs) i name skew cells named
    (sym (wave_found xs i (length xs) x within refl is) ∙ (λ k. skewed (sym same k) (sym late k)))

-- each net of the order has a wave
pub has_wave : (c : Circuit) (waves : List (Wave Value)) (place : ℕ) → IsNameOrder (net_names c.nets) c.order → length waves ≡ length c.nets →
    place < length c.order → net_at c.order place < length waves
has_wave c waves place ordered each within =
    let below = order_in (net_names c.nets) c.order place 0 ordered within in
    omega (arith, below, each, length-map c.nets net_name)
