-- The limits of a circuit, subject by subject.
use Rattle.std.proofs.Common.{◌≡◌, ℕ, zero, suc, ◌+◌, ◌<◌, ◌≤◌, Bool, true, false, not, ◌&&◌, ◌||◌, cond, inl, inr, refl, sym, ap, ◌∙◌, arith, zero-add, List, [], ◌∷◌, ◌++◌, length, get_or, map, take, Option, Some, None}
use Rattle.std.specs.Prelude.{filter, slice_get}
use Rattle.std.specs.List.{flat_map, list_any, range_with_len}
use Rattle.std.proofs.lemmas.Bool.{cases_eq, eq-eqb, ne_eqb, or_left, or_right}
use Rattle.std.proofs.lemmas.List.{flat_map_more, map-append, take_all, take_more}
use Rattle.std.proofs.lemmas.List.Concat.{flat_map-append}
use Rattle.vector_names.proofs.Ranges.{range_more}
use Rattle.flat_circuit.specs.declared.instance.Instance.{Instance}
use Rattle.flat_circuit.specs.declared.instance.Pin.{Pin}
use Rattle.flat_circuit.specs.declared.limits.Limits.TheVariants.{None as Unlimited}
use Rattle.flat_circuit.specs.declared.net.Net.{Net}
use Rattle.flat_circuit.specs.Circuit.{Circuit}
use Rattle.point_check.specs.Assertion.{is_held}
use Rattle.slack_rows.specs.declared.parameter.Parameter.{Parameter}
use Rattle.slack_rows.specs.declared.parameter.Word.{Word as Limit}
use Rattle.slack_rows.specs.declared.parameter.Word.TheVariants.{Gate, Before as GateBefore, After as GateAfter, Assert, From as StableFrom, To as StableTo}
use Rattle.slack_rows.specs.declared.parameter.Subject.{Subject}
use Rattle.slack_rows.specs.declared.parameter.Subject.TheVariants.{Instance as OfInstance, Net as OfNet}
use Rattle.slack_rows.specs.Limit.{is_beside, is_on, is_on_net}
use Rattle.slack_rows.specs.Rows.{all_limits, if_some, limit_in, limit_of, limits_at, limits_of_instance, limits_of_mark, limits_of_net}

-- ---- numbers of a range that pass

pub any_found : (test : ℕ → Bool) (n i k : ℕ) → i ≤ k → k < i + n → test k ≡ true → list_any test (range_with_len i n) ≡ true
any_found test zero i k from below passes = absurd (omega (arith, from, below))
any_found test (suc n) i k from below passes = elim (cases_eq k i) [
  | inl same ↦ or_left (test i) (list_any test (range_with_len (i + 1) n)) (ap test (sym same) ∙ passes)
  | inr other ↦
      or_right (test i) (list_any test (range_with_len (i + 1) n))
      (any_found test n (i + 1) k (omega (arith, from, other)) (omega (arith, below)) passes)
]

pub any_nowhere : (test : ℕ → Bool) (n i : ℕ) → ((k : ℕ) → i ≤ k → k < i + n → test k ≡ false) → list_any test (range_with_len i n) ≡ false
any_nowhere test zero i none = refl
any_nowhere test (suc n) i none =
    ap (λ (b : Bool). b || list_any test (range_with_len (i + 1) n)) (none i (omega arith) (omega arith))
    ∙ any_nowhere test n (i + 1) (λ k from below. none k (omega (arith, from)) (omega (arith, below)))

-- some passes exactly where those that pass are some
pub some_pass : (test : ℕ → Bool) (xs : List ℕ) (limits : List Limit) →
    if_some (filter test xs) limits ≡ cond (list_any test xs) limits []
some_pass test [] limits = refl
some_pass test (x ∷ xs) limits = by (test x) (some_pass test xs limits)
  where
    by : (b : Bool) → if_some (filter test xs) limits ≡ cond (list_any test xs) limits [] →
        if_some (cond b (x ∷ filter test xs) (filter test xs)) limits ≡ cond (b || list_any test xs) limits []
    by true rest = refl
    by false rest = rest

-- ---- one subject more

-- the limits of an instance
abbrev limits_in : ℕ → Option Instance → List Parameter
limits_in k o = map (λ (word : Limit). let q : Parameter = record { subject = OfInstance k; word = word; limit = limit_in o word } in q) (limits_of_instance o)

pub instance_limits : (c : Circuit) (k : ℕ) (j : Instance) (words : List Limit) → Some j ≡ slice_get c.instances k →
    words ≡ limits_of_instance (Some j) →
    map (λ (word : Limit). let q : Parameter = record { subject = OfInstance k; word = word; limit = limit_of j.limits word } in q) words ≡ limits_at c (OfInstance k)
instance_limits c k j words at are =
    ap (map (λ (word : Limit). let q : Parameter = record { subject = OfInstance k; word = word; limit = limit_of j.limits word } in q)) are
    ∙ ap (limits_in k) at

pub no_instance : (c : Circuit) (k : ℕ) → slice_get c.instances k ≡ None → limits_at c (OfInstance k) ≡ []
no_instance c k none = ap (limits_in k) none

abbrev limits_in_net : ℕ → Option Net → List Parameter
limits_in_net i o = map (λ (word : Limit). let q : Parameter = record { subject = OfNet i; word = word; limit = 0 } in q) (limits_of_net o)

pub net_limits : (c : Circuit) (i : ℕ) (net : Net) (words : List Limit) → Some net ≡ slice_get c.nets i →
    words ≡ limits_of_net (Some net) →
    map (λ (word : Limit). let q : Parameter = record { subject = OfNet i; word = word; limit = limit_of Unlimited word } in q) words ≡ limits_at c (OfNet i)
net_limits c i net words at are =
    ap (map (λ (word : Limit). let q : Parameter = record { subject = OfNet i; word = word; limit = limit_of Unlimited word } in q)) are
    ∙ by (is_held net) ∙ ap (limits_in_net i) at
  where
    by : (b : Bool) →
        map (λ (word : Limit). let q : Parameter = record { subject = OfNet i; word = word; limit = limit_of Unlimited word } in q) (cond b (Assert ∷ StableFrom ∷ StableTo ∷ []) [])
        ≡ map (λ (word : Limit). let q : Parameter = record { subject = OfNet i; word = word; limit = 0 } in q) (cond b (Assert ∷ StableFrom ∷ StableTo ∷ []) [])
    by true = refl
    by false = refl

pub no_net : (c : Circuit) (i : ℕ) → slice_get c.nets i ≡ None → limits_at c (OfNet i) ≡ []
no_net c i none = ap (limits_in_net i) none

pub instances_more : (c : Circuit) (n : ℕ) (out next more : List Parameter) →
    out ≡ flat_map (limits_at c) (map OfInstance (range_with_len 0 n)) → next ≡ out ++ more → more ≡ limits_at c (OfInstance n) →
    next ≡ flat_map (limits_at c) (map OfInstance (range_with_len 0 (n + 1)))
instances_more c n out next more are longer is =
    longer ∙ ap (λ (xs : List Parameter). out ++ xs) is ∙ ap (λ (xs : List Parameter). xs ++ limits_at c (OfInstance n)) are
    ∙ flat_map_more (limits_at c) [] (map OfInstance (range_with_len 0 n)) (OfInstance n)
    ∙ ap (flat_map (limits_at c)) (sym (map-append OfInstance (range_with_len 0 n) (n ∷ [])) ∙ ap (map OfInstance) (sym (range_more 0 n n (zero-add n))))

pub nets_more : (c : Circuit) (place : ℕ) (before out next more : List Parameter) → place < length c.order →
    out ≡ before ++ flat_map (limits_at c) (map OfNet (take place c.order)) → next ≡ out ++ more → more ≡ limits_at c (OfNet (get_or c.order place 0)) →
    next ≡ before ++ flat_map (limits_at c) (map OfNet (take (place + 1) c.order))
nets_more c place before out next more within are longer is =
    longer ∙ ap (λ (xs : List Parameter). out ++ xs) is ∙ ap (λ (xs : List Parameter). xs ++ limits_at c (OfNet (get_or c.order place 0))) are
    ∙ flat_map_more (limits_at c) before (map OfNet (take place c.order)) (OfNet (get_or c.order place 0))
    ∙ ap (λ (xs : List Subject). before ++ flat_map (limits_at c) xs)
    (sym (map-append OfNet (take place c.order) (get_or c.order place 0 ∷ [])) ∙ ap (map OfNet) (sym (take_more c.order place 0 within)))

-- all of them
pub all_are : (c : Circuit) (place : ℕ) (out : List Parameter) → length c.order ≤ place →
    out ≡ flat_map (limits_at c) (map OfInstance (range_with_len 0 (length c.instances))) ++ flat_map (limits_at c) (map OfNet (take place c.order)) →
    out ≡ all_limits c
all_are c place out past is =
    is
    ∙ ap (λ (xs : List ℕ). flat_map (limits_at c) (map OfInstance (range_with_len 0 (length c.instances))) ++ flat_map (limits_at c) (map OfNet xs)) (take_all place c.order past)
    ∙ sym (flat_map-append (limits_at c) (map OfInstance (range_with_len 0 (length c.instances))) (map OfNet c.order))

-- ---- the words of a mark

pub words_by : (j : Instance) (marked : ℕ) (b : Bool) → list_any (is_beside j marked) (range_with_len 0 (length j.pins)) ≡ b →
    limits_of_mark j (Some marked) ≡ cond b (Gate ∷ GateBefore ∷ GateAfter ∷ []) []
words_by j marked b is =
    some_pass (is_beside j marked) (range_with_len 0 (length j.pins)) (Gate ∷ GateBefore ∷ GateAfter ∷ [])
    ∙ ap (λ (x : Bool). cond x (Gate ∷ GateBefore ∷ GateAfter ∷ []) []) is

-- ---- pins beside a marked one

on_net_at : (pins : List Pin) (i : ℕ) (d : Pin) → i < length pins → is_on (slice_get pins i) ≡ is_on_net (get_or pins i d).target
on_net_at [] i d within = absurd (omega (arith, within))
on_net_at (pin ∷ pins) zero d within = refl
on_net_at (pin ∷ pins) (suc i) d within = on_net_at pins i d (omega (arith, within))

pub beside_at : (gate : Instance) (marked place : ℕ) (pins : List Pin) (d : Pin) (b : Bool) → pins ≡ gate.pins → (place ≡ marked → ⊥) →
    place < length pins → b ≡ is_on_net (get_or pins place d).target → is_beside gate marked place ≡ b
beside_at gate marked place pins d b same other within is =
    ap (λ (x : Bool). not x && is_on (slice_get gate.pins place)) (ne_eqb place marked other)
    ∙ ap (λ (xs : List Pin). is_on (slice_get xs place)) (sym same) ∙ on_net_at pins place d within ∙ sym is

pub beside_not : (gate : Instance) (marked place : ℕ) → place ≡ marked → is_beside gate marked place ≡ false
beside_not gate marked place same = ap (λ (x : Bool). not x && is_on (slice_get gate.pins place)) (eq-eqb place marked same)
