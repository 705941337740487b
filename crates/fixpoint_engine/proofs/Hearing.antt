-- If nothing that an instance listens to has changed, its value has not changed.
use Rattle.std.proofs.Common.{◌≡◌, ℕ, ◌+◌, Bool, true, false, ◌&&◌, cond, List, [], ◌∷◌, map, refl, sym, ap, ◌∙◌, Option, Some, None}
use Rattle.std.proofs.lemmas.Bool.{not-false, or_parts}
use Rattle.scald_base.specs.Time.{Header, Bounds}
use Rattle.vector_names.specs.declared.bits.Target.{Target}
use Rattle.vector_names.specs.declared.bits.Target.TheVariants.{Net as OnNet, Constant}
use Rattle.step_values.specs.declared.value.Value.{Value}
use Rattle.step_values.specs.Cell.{values}
use Rattle.skew_algebra.specs.Wave.{Wave, normal}
use Rattle.element_kinds.specs.declared.kind.Kind.{Kind}
use Rattle.element_kinds.specs.declared.kind.Kind.TheVariants.{Reg, RegRs, Latch, LatchRs}
use Rattle.flat_circuit.specs.declared.instance.Pin.{Pin}
use Rattle.flat_circuit.specs.declared.instance.Instance.{Instance}
use Rattle.flat_circuit.specs.declared.split.Split.{Split}
use Rattle.element_kinds.specs.Kinds.{listens}
use Rattle.flat_circuit.specs.Circuit.{Circuit, driver}
use Rattle.storage_eval.specs.Storage.{listening_from}
use Rattle.storage_eval.proofs.Dependence.{storage_wave_listening}
use Rattle.pin_waves.specs.Pin.{pin_wave as wave_behind}
use Rattle.fixpoint_engine.specs.Same.{same_wave}
use Rattle.fixpoint_engine.specs.Waves.{Waves, target_wave, target_wire, pin_wave, marked_pin}
use Rattle.fixpoint_engine.specs.Value.{made_by, turned_wave, instance_wave}
use Rattle.fixpoint_engine.specs.Rounds.{wave_from, evaluated, next}
use Rattle.fixpoint_engine.specs.Work.{differs, is_on_any, hears_from, hears_in}
use Rattle.fixpoint_engine.proofs.Same.{same_wave_is}

target_same : (h : Header) (ws vs : Waves) (t : Target) → is_on_any (differs ws vs) t ≡ false → target_wave h ws t ≡ target_wave h vs t
target_same h ws vs (OnNet i) same = same_wave_is (ws i) (vs i) (not-false (same_wave (ws i) (vs i)) same)
target_same h ws vs (Constant one) same = refl

pin_same : (c : Circuit) (ws vs : Waves) (p : Pin) → is_on_any (differs ws vs) p.target ≡ false → pin_wave c ws p ≡ pin_wave c vs p
pin_same c ws vs p same =
    ap (λ (w : Wave Value). wave_behind w (target_wire c.nets p.target) p.inverted) (target_same c.header ws vs p.target same)

listening_same : (c : Circuit) (ws vs : Waves) (kind : Kind) (place : ℕ) (ps : List Pin) → hears_from (differs ws vs) kind place ps ≡ false →
    listening_from kind place (map (pin_wave c ws) ps) ≡ listening_from kind place (map (pin_wave c vs) ps)
listening_same c ws vs kind place [] unheard = refl
listening_same c ws vs kind place (p ∷ ps) unheard =
    let parts = or_parts (listens kind place && is_on_any (differs ws vs) p.target) (hears_from (differs ws vs) kind (place + 1) ps) unheard in
    by (listens kind place) parts.0 (listening_same c ws vs kind (place + 1) ps parts.1)
  where
    by : (heard : Bool) → (heard && is_on_any (differs ws vs) p.target) ≡ false →
        listening_from kind (place + 1) (map (pin_wave c ws) ps) ≡ listening_from kind (place + 1) (map (pin_wave c vs) ps) →
        cond heard (pin_wave c ws p ∷ listening_from kind (place + 1) (map (pin_wave c ws) ps)) (listening_from kind (place + 1) (map (pin_wave c ws) ps))
        ≡ cond heard (pin_wave c vs p ∷ listening_from kind (place + 1) (map (pin_wave c vs) ps)) (listening_from kind (place + 1) (map (pin_wave c vs) ps))
    by true same rest = λ i. pin_same c ws vs p same i ∷ rest i
    by false same rest = rest

-- if every pin listens
pub listening_all : (kind : Kind) → ((place : ℕ) → listens kind place ≡ true) → (place : ℕ) (waves : List (Wave Value)) → listening_from kind place waves ≡ waves
listening_all kind all place [] = refl
listening_all kind all place (w ∷ ws) = rw (all place) (ap (λ (rest : List (Wave Value)). w ∷ rest) (listening_all kind all (place + 1) ws))

all_same : (c : Circuit) (ws vs : Waves) (kind : Kind) (ps : List Pin) → ((place : ℕ) → listens kind place ≡ true) → hears_from (differs ws vs) kind 0 ps ≡ false →
    map (pin_wave c ws) ps ≡ map (pin_wave c vs) ps
all_same c ws vs kind ps all unheard =
    sym (listening_all kind all 0 (map (pin_wave c ws) ps)) ∙ listening_same c ws vs kind 0 ps unheard ∙ listening_all kind all 0 (map (pin_wave c vs) ps)

made_same : (c : Circuit) (ws vs : Waves) (kind : Kind) (ps : List Pin) (marked : Option ℕ) (d : Bounds) (split : Option Split) →
    hears_from (differs ws vs) kind 0 ps ≡ false →
    made_by kind (map (pin_wave c ws) ps) marked d split ≡ made_by kind (map (pin_wave c vs) ps) marked d split
made_same c ws vs Reg ps marked d split unheard = storage_wave_listening Reg _ _ d (listening_same c ws vs Reg 0 ps unheard)
made_same c ws vs RegRs ps marked d split unheard = storage_wave_listening RegRs _ _ d (listening_same c ws vs RegRs 0 ps unheard)
made_same c ws vs Latch ps marked d split unheard = storage_wave_listening Latch _ _ d (listening_same c ws vs Latch 0 ps unheard)
made_same c ws vs LatchRs ps marked d split unheard = storage_wave_listening LatchRs _ _ d (listening_same c ws vs LatchRs 0 ps unheard)
made_same c ws vs kind ps marked d split unheard =
    ap (λ (waves : List (Wave Value)). made_by kind waves marked d split) (all_same c ws vs kind ps (λ place. refl) unheard)

pub instance_same : (c : Circuit) (ws vs : Waves) (j : Instance) → hears_in (differs ws vs) (Some j) ≡ false → instance_wave c ws j ≡ instance_wave c vs j
unfolding instance_wave
instance_same c ws vs j unheard =
    ap (λ (w : Wave Value). normal values (turned_wave j.out_inverted w)) (made_same c ws vs j.kind j.pins (marked_pin j) j.delay j.split unheard)

-- A net whose driver listens to nothing that changed keeps the wave that the round before gave it.
pub stays : (c : Circuit) (active : ℕ → Bool) (before now : Waves) (i : ℕ) → now i ≡ next c active before i → hears_in (differs before now) (driver c i) ≡ false →
    next c active now i ≡ now i
unfolding next
stays c active before now i is unheard = by (active i) is
  where
    from : (d : Option Instance) → now i ≡ wave_from c before d (before i) → hears_in (differs before now) d ≡ false → wave_from c now d (now i) ≡ now i
    from None is unheard = refl
    from (Some j) is unheard = sym (instance_same c before now j unheard) ∙ sym is

    by : (a : Bool) → now i ≡ cond a (evaluated c before i) (before i) → cond a (evaluated c now i) (now i) ≡ now i
    by true is = from (driver c i) is unheard
    by false is = refl
