-- The limits that the use of a checker gives, in a period of 400 ticks, and which are refused.
use Rattle.std.proofs.Common.{◌≡◌, ℕ, pos, negsuc, List, [], ◌∷◌, map, codes, Ok, Err, refl}
use Rattle.scald_base.specs.declared.refusal.RefusalKind.TheVariants.{Bounds}
use Rattle.drawing_tree.specs.declared.environment.Binding.{Binding}
use Rattle.element_kinds.specs.declared.kind.Kind.{Kind}
use Rattle.element_kinds.specs.declared.kind.Kind.TheVariants.{And, SetupHold, RiseFall, MinPulse}
use Rattle.flat_circuit.specs.declared.limits.Limits.{Limits}
use Rattle.flat_circuit.specs.declared.limits.Limits.TheVariants.{None as Unlimited, Edges, Pulses}
use Rattle.macro_expander.specs.Outcome.{Judged}
use Rattle.macro_expander.specs.Primitives.{limits_of}

-- parameters of these values

abbrev setup : ℕ → Binding
setup n = record { name = codes "SETUP"; value = pos n }

abbrev hold : ℕ → Binding
hold n = record { name = codes "HOLD"; value = pos n }

abbrev high : ℕ → Binding
high n = record { name = codes "HIGH"; value = pos n }

abbrev low : ℕ → Binding
low n = record { name = codes "LOW"; value = pos n }

-- of the value -1
abbrev negative : Binding → Binding
negative b = record b { value = negsuc 0 }

abbrev limits : Kind → List Binding → Judged Limits
limits kind given = limits_of 400 kind given

-- ---- each is that of its name, and 0 if it is not given

of_edges : map (λ kind. limits kind (setup 7 ∷ hold 9 ∷ [])) (SetupHold ∷ RiseFall ∷ [])
    ≡ Ok (Edges 7 9) ∷ Ok (Edges 7 9) ∷ []
of_edges = refl

hold_first : map (λ kind. limits kind (hold 9 ∷ setup 7 ∷ [])) (SetupHold ∷ RiseFall ∷ [])
    ≡ Ok (Edges 7 9) ∷ Ok (Edges 7 9) ∷ []
hold_first = refl

of_pulses : limits MinPulse (high 7 ∷ low 9 ∷ []) ≡ Ok (Pulses 7 9)
of_pulses = refl

low_first : limits MinPulse (low 9 ∷ high 7 ∷ []) ≡ Ok (Pulses 7 9)
low_first = refl

setup_alone : limits SetupHold (setup 7 ∷ []) ≡ Ok (Edges 7 0)
setup_alone = refl

hold_alone : limits RiseFall (hold 9 ∷ []) ≡ Ok (Edges 0 9)
hold_alone = refl

high_alone : limits MinPulse (high 7 ∷ []) ≡ Ok (Pulses 7 0)
high_alone = refl

low_alone : limits MinPulse (low 9 ∷ []) ≡ Ok (Pulses 0 9)
low_alone = refl

of_an_element : limits And [] ≡ Ok Unlimited
of_an_element = refl

-- ---- setup and hold may take the whole period together, and each width may

whole_period : limits SetupHold (setup 150 ∷ hold 250 ∷ []) ≡ Ok (Edges 150 250)
whole_period = refl

past_the_period : limits RiseFall (setup 150 ∷ hold 251 ∷ []) ≡ Err Bounds
past_the_period = refl

widest : limits MinPulse (high 400 ∷ low 400 ∷ []) ≡ Ok (Pulses 400 400)
widest = refl

too_wide : map (limits MinPulse) ((high 401 ∷ low 0 ∷ []) ∷ (high 0 ∷ low 401 ∷ []) ∷ [])
    ≡ Err Bounds ∷ Err Bounds ∷ []
too_wide = refl

-- ---- none is negative

negative_edges : map (limits SetupHold)
    ((negative (setup 0) ∷ hold 9 ∷ []) ∷ (setup 7 ∷ negative (hold 0) ∷ []) ∷ [])
    ≡ Err Bounds ∷ Err Bounds ∷ []
negative_edges = refl

negative_widths : map (limits MinPulse)
    ((negative (high 0) ∷ low 9 ∷ []) ∷ (high 7 ∷ negative (low 0) ∷ []) ∷ [])
    ≡ Err Bounds ∷ Err Bounds ∷ []
negative_widths = refl
