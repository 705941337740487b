-- The digits of levels, and what values are written as.
use Rattle.std.proofs.Common.{◌≡◌, ℕ, zero, suc, ◌+◌, ◌-◌, ◌<◌, Bool, List, [], ◌∷◌, ◌++◌, length, append_assoc, refl, arith, ap, sym, ◌∙◌}
use Rattle.std.specs.List.{flat_map}
use Rattle.flat_circuit.specs.Circuit.{Circuit}
use Rattle.trace_tool.specs.Change.{digit_text, level, levels, value_text, vector_text}
use Rattle.trace_tool.specs.Dump.{texts}
use Rattle.trace_tool.specs.Change.{later_commands, tick_commands}
use Rattle.trace_tool.specs.declared.stretch.Stretch.{Stretch}
use Rattle.trace_tool.proofs.Texts.{texts_append}

pub digit_less : (c : Circuit) (rows : List (List Bool)) (t place left : ℕ) (out new digit whole : List ℕ) → 0 < left →
    digit ≡ digit_text (level c rows (place + (left - 1)) t) → new ≡ out ++ digit →
    out ++ flat_map digit_text (levels c rows t place left) ≡ whole →
    new ++ flat_map digit_text (levels c rows t place (left - 1)) ≡ whole
digit_less c rows t place zero out new digit whole some is added before = absurd (omega arith)
digit_less c rows t place (suc n) out new digit whole some is added before =
    let less : suc n - 1 ≡ n = omega arith in
    let same : digit ≡ digit_text (level c rows (place + n) t) = is ∙ ap (λ (m : ℕ). digit_text (level c rows (place + m) t)) less in
    ap (λ (m : ℕ). new ++ flat_map digit_text (levels c rows t place m)) less
    ∙ ap (λ (l : List ℕ). l ++ flat_map digit_text (levels c rows t place n)) (added ∙ ap (λ (d : List ℕ). out ++ d) same)
    ∙ append_assoc out (digit_text (level c rows (place + n) t)) (flat_map digit_text (levels c rows t place n)) ∙ before

length_levels : (c : Circuit) (rows : List (List Bool)) (t place n : ℕ) → length (levels c rows t place n) ≡ n
length_levels c rows t place zero = refl
length_levels c rows t place (suc n) = ap suc (length_levels c rows t place n)

vector_by : (code : List ℕ) (bits : List Bool) → (length bits ≡ 1 → ⊥) → value_text code bits ≡ vector_text code bits
vector_by code [] many = refl
vector_by code (b ∷ []) many = absurd (many refl)
vector_by code (b ∷ a ∷ bits) many = refl

pub vector_is : (c : Circuit) (rows : List (List Bool)) (t place n : ℕ) (code : List ℕ) → (n ≡ 1 → ⊥) →
    value_text code (levels c rows t place n) ≡ vector_text code (levels c rows t place n)
vector_is c rows t place n code many =
    vector_by code (levels c rows t place n) (λ one. many (sym (length_levels c rows t place n) ∙ one))

-- a tick more
pub tick_less : (c : Circuit) (rows : List (List Bool)) (ss : List Stretch) (tick ticks : ℕ) (out new whole : List ℕ) → tick < ticks →
    new ≡ out ++ texts (tick_commands c rows ss tick) →
    out ++ texts (later_commands c rows ss tick (ticks - tick)) ≡ whole →
    new ++ texts (later_commands c rows ss (tick + 1) (ticks - (tick + 1))) ≡ whole
tick_less c rows ss tick ticks out new whole below added before =
    let more : suc (ticks - (tick + 1)) ≡ ticks - tick = omega arith in
    let rest = later_commands c rows ss (tick + 1) (ticks - (tick + 1)) in
    ap (λ (l : List ℕ). l ++ texts (later_commands c rows ss (tick + 1) (ticks - (tick + 1)))) added
    ∙ append_assoc out (texts (tick_commands c rows ss tick)) (texts (later_commands c rows ss (tick + 1) (ticks - (tick + 1))))
    ∙ ap (λ (l : List ℕ). out ++ l) (sym (texts_append (tick_commands c rows ss tick) (later_commands c rows ss (tick + 1) (ticks - (tick + 1)))))
    ∙ ap (λ (n : ℕ). out ++ texts (later_commands c rows ss tick n)) more ∙ before
