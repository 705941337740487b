-- The waves that a section begins with, as code makes them: those of its circuit alone, and then, net by
-- net of a case, those that come from other sections.
use Rattle.std.proofs.Common.{◌≡◌, ℕ, ◌+◌, ◌<◌, Bool, true, false, cond, ◌||◌, List, [], ◌∷◌, ◌++◌, length, take, set}
use Rattle.std.proofs.Common.{get_or, refl, sym, ap, subst, ◌∙◌, arith, slice_get}
use Rattle.std.specs.Prelude.{◌==◌}
use Rattle.std.proofs.lemmas.Bool.{eqb-true}
use Rattle.std.proofs.lemmas.List.{length-map, length-set, take_more}
use Rattle.step_values.specs.declared.value.Value.{Value}
use Rattle.skew_algebra.specs.Wave.{Wave}
use Rattle.flat_circuit.specs.declared.case.CaseValue.{CaseValue}
use Rattle.flat_circuit.specs.Circuit.{Circuit}
use Rattle.fixpoint_engine.specs.Table.{AreKnown, Grows, IsNumber, wave_at, waves_at}
use Rattle.fixpoint_engine.proofs.Growing.{known_still, same_waves}
use Rattle.fixpoint_engine.proofs.TableByNumber.{number_below, number_reads}
use Rattle.fixpoint_engine.specs.Waves.{FitWaves, waves_of}
use Rattle.fixpoint_engine.proofs.WavesOf.{set_at}
use Rattle.fixpoint_engine.specs.Start.{base_start}
use Rattle.fixpoint_engine.proofs.Added.{known_set}
use Rattle.case_analysis.specs.Case.{NetsExist, is_set}
use Rattle.case_analysis.proofs.Numbered.{put_wave}
use Rattle.section_compose.specs.Evaluated.{start_with, wave_in}
use Rattle.section_compose.proofs.Across.{start_with_long}

-- ---- one net more

set_next : (here : Bool) (vs : List CaseValue) (v : CaseValue) (i : ℕ) → is_set (vs ++ v ∷ []) i ≡ (is_set vs i || (v.net == i)) →
    (here || is_set (vs ++ v ∷ []) i) ≡ ((here || is_set vs i) || (v.net == i))
set_next true vs v i more = refl
set_next false vs v i more = more

set_first : (here : Bool) → (here || false) ≡ here
set_first true = refl
set_first false = refl

pub set_more : (vs : List CaseValue) (v : CaseValue) (i : ℕ) → is_set (vs ++ v ∷ []) i ≡ (is_set vs i || (v.net == i))
set_more [] v i = set_first (v.net == i)
set_more (w ∷ vs) v i = set_next (w.net == i) vs v i (set_more vs v i)

or_here : (a b : Bool) → b ≡ true → (a || b) ≡ true
or_here true b e = refl
or_here false b e = e

or_other : (a b : Bool) → b ≡ false → (a || b) ≡ a
or_other true b e = refl
or_other false b e = e

start_more : (c : Circuit) (vs : List CaseValue) (v : CaseValue) (i : ℕ) →
    start_with c (is_set (vs ++ v ∷ [])) i ≡ cond (v.net == i) (start_with c (λ _. true) v.net) (start_with c (is_set vs) i)
start_more c vs v i = by (v.net == i) refl
  where
    by : (here : Bool) → (v.net == i) ≡ here →
        start_with c (is_set (vs ++ v ∷ [])) i ≡ cond here (start_with c (λ _. true) v.net) (start_with c (is_set vs) i)
    by true e =
        ap (λ (b : Bool). wave_in c.header b (slice_get c.nets i) (base_start c i)) (set_more vs v i ∙ or_here (is_set vs i) (v.net == i) e)
        ∙ ap (start_with c (λ _. true)) (sym (eqb-true v.net i e))
    by false e = ap (λ (b : Bool). wave_in c.header b (slice_get c.nets i) (base_start c i)) (set_more vs v i ∙ or_other (is_set vs i) (v.net == i) e)

-- ---- as code sets it

module _ (c : Circuit) (vs items : List CaseValue) (k : ℕ) (d : CaseValue) (old new : List (Wave Value)) (numbers after : List ℕ) (n : ℕ)
    (same : items ≡ vs) (inside : k < length items) (exist : NetsExist c vs) (each : length numbers ≡ length c.nets)
    (put : after ≡ set numbers (get_or items k d).net n) (grows : Grows old new) (known : AreKnown old numbers)
    (means : IsNumber new (start_with c (λ _. true) (get_or items k d).net) n) where
  abbrev item : CaseValue
  item = get_or items k d

  pub begun_each : length after ≡ length c.nets
  begun_each = ap length put ∙ length-set numbers item.net n ∙ each

  pub begun_known : AreKnown new after
  begun_known = known_set new numbers after item.net n put (known_still old new grows numbers known) (number_below new (start_with c (λ _. true) item.net) n means)

  read : get_or vs k d ≡ item
  read = ap (λ (xs : List CaseValue). get_or xs k d) (sym same)

  below : k < length vs
  below = subst (λ (xs : List CaseValue). k < length xs) same inside

  more : take (k + 1) vs ≡ take k vs ++ item ∷ []
  more = take_more vs k d below ∙ ap (λ x. take k vs ++ x ∷ []) read

  real : item.net < length c.nets
  real = subst (λ (v : CaseValue). v.net < length c.nets) read (exist k d below)

  -- the waves with this number set
  waves_put : waves_at new after ≡ set (waves_at old numbers) item.net (start_with c (λ _. true) item.net)
  waves_put =
      put_wave new numbers after item.net n put
      ∙ (λ j. set (same_waves old new grows numbers known j) item.net (number_reads new (start_with c (λ _. true) item.net) n means j))

  pub begun_more : ((i : ℕ) → waves_of (waves_at old numbers) i ≡ start_with c (is_set (take k vs)) i) →
      (i : ℕ) → waves_of (waves_at new after) i ≡ start_with c (is_set (take (k + 1) vs)) i
  begun_more so i =
      ap (λ (ws : List (Wave Value)). waves_of ws i) waves_put
      ∙ set_at (waves_at old numbers) item.net i (start_with c (λ _. true) item.net)
      (let long = length-map numbers (wave_at old) in let within = real in omega (arith, long, each, within))
      ∙ ap (cond (item.net == i) (start_with c (λ _. true) item.net)) (so i)
      ∙ sym (ap (λ (xs : List CaseValue). start_with c (is_set xs) i) more ∙ start_more c (take k vs) item i)

-- one for each net, of the period
pub begun_fits : (c : Circuit) (across : ℕ → Bool) (waves : List (Wave Value)) → length waves ≡ length c.nets →
    ((i : ℕ) → waves_of waves i ≡ start_with c across i) → FitWaves c waves
begun_fits c across waves each is = record {
  each_net = each;
  each_slot = λ i below. ap (λ (w : Wave Value). length w.cells) (is i) ∙ start_with_long c across i below;
}
