-- The formals of a use, bound by numbers and by names.
use Rattle.std.proofs.Common.{◌≡◌, ℕ, ◌+◌, ◌≤◌, ◌<◌, Bool, true, false, cond, List, [], ◌∷◌, ◌++◌, length, map, min, replicate, drop, get_or, Option, Some, None, Ok, Err, refl, inl, inr, ap, sym, ◌∙◌, subst, arith, zero, suc}
use Rattle.std.specs.Prelude.{◌==◌}
use Rattle.std.specs.List.{All, zip}
use Rattle.std.specs.Option.{option_map}
use Rattle.std.proofs.lemmas.List.{append_assoc, append-nil, map-append, map_push, length-map, drop_more, drop_all}
use Rattle.std.proofs.lemmas.Bool.{cases_lt}
use Rattle.std.proofs.lemmas.List.Elements.{All-head, All-tail, All-push, All-nil, All-cons, All-replicate}
use Rattle.scald_base.specs.declared.refusal.RefusalKind.TheVariants.{Width}
use Rattle.scald_base.specs.declared.refusal.Stop.{Stop}
use Rattle.drawing_tree.specs.declared.environment.Binding.{Binding}
use Rattle.vector_names.specs.declared.bits.BitRef.{BitRef}
use Rattle.vector_names.specs.Bits.{spread}
use Rattle.flat_circuit.specs.Name.{Name}
use Rattle.drawing_tree.specs.Tree.{Macro, UseStatement}
use Rattle.macro_expander.specs.declared.expansion.Expansion.{Expansion}
use Rattle.macro_expander.specs.declared.formal.Shape.{Shape}
use Rattle.macro_expander.specs.declared.formal.Inside.{Inside}
use Rattle.macro_expander.specs.declared.scope.Bound as numbered_bound
use Rattle.macro_expander.specs.declared.scope.Scope as numbered_scope
use Rattle.macro_expander.specs.declared.connection.Joined as numbered_joined
use Rattle.macro_expander.specs.declared.connection.Wires as numbered_wires
use Rattle.macro_expander.specs.Named.{Bit}
use Rattle.macro_expander.specs.Outcome.{Judged, judging, or_refuse, collected}
use Rattle.macro_expander.specs.Steps.{IsJudgedRefusal}
use Rattle.macro_expander.specs.Terms.{Bound, Scope, wires_of}
use Rattle.macro_expander.specs.Primitives.{demanded}
use Rattle.macro_expander.specs.Macros.{repeated, widened, input_bits, output_bits, bound, input_bound, output_bound, bound_scope, inner_path, inside_of, inner_scope}
use Rattle.macro_expander.specs.Numbered.{bit_of, bound_of, scope_of, joined_of, bound_ref, input_bound_ref, output_bound_ref, bound_formals_ref, BitExists, BoundExists, JoinedExists, Failed, GivesWires, GivesScope, nets_in, names_in, state_of}
use Rattle.macro_expander.proofs.Formals.{jmap, or_refuse_map}

-- ---- bits that are seen otherwise

module _ {A B : Type 0} (f : A → B) where
  replicate_map : (n : ℕ) (a : A) → replicate n (f a) ≡ map f (replicate n a)
  replicate_map zero a = refl
  replicate_map (suc n) a = ap (λ bits. f a ∷ bits) (replicate_map n a)

  repeated_map : (bits : List A) (n : ℕ) → repeated (map f bits) n ≡ option_map (map f) (repeated bits n)
  repeated_map [] n = refl
  repeated_map (b ∷ []) n = ap Some (replicate_map n b)
  repeated_map (b ∷ c ∷ bits) n = refl

  widened_map : (bits : List A) (n : ℕ) → widened (map f bits) n ≡ option_map (map f) (widened bits n)
  widened_map bits n = rw (length-map bits f) (by (length bits == n))
    where
      by : (b : Bool) → cond b (Some (map f bits)) (repeated (map f bits) n) ≡ option_map (map f) (cond b (Some bits) (repeated bits n))
      by true = refl
      by false = repeated_map bits n

  input_map : (shape : Shape) (bits : List A) → input_bits shape (map f bits) ≡ jmap (map f) (input_bits shape bits)
  input_map shape bits = ap (λ o. or_refuse o Width) (widened_map bits (length shape.numbers)) ∙ or_refuse_map (map f) (widened bits (length shape.numbers)) Width

  output_map : (shape : Shape) (bits : List A) → output_bits shape (map f bits) ≡ jmap (map f) (output_bits shape bits)
  output_map shape bits = rw (length-map bits f) (by (length bits == length shape.numbers))
    where
      by : (b : Bool) → demanded b Width (Ok (map f bits)) ≡ jmap (map f) (demanded b Width (Ok bits))
      by true = refl
      by false = refl

-- ---- what holds of each bit holds of those that are bound

module _ {A : Type 0} (P : A → Type 0) where
  repeated_are : (bits wide : List A) (n : ℕ) → All P bits → repeated bits n ≡ Some wide → All P wide
  repeated_are [] wide n h e = absurd (cc)
  repeated_are (b ∷ []) wide n h e = let s : replicate n b ≡ wide = cc in subst (All P) s (All-replicate P n b (All-head P b [] h))
  repeated_are (b ∷ c ∷ bits) wide n h e = absurd (cc)

  widened_are : (bits wide : List A) (n : ℕ) → All P bits → widened bits n ≡ Some wide → All P wide
  widened_are bits wide n h e = by (length bits == n) e
    where
      by : (b : Bool) → cond b (Some bits) (repeated bits n) ≡ Some wide → All P wide
      by true q = let s : bits ≡ wide = cc in subst (All P) s h
      by false q = repeated_are bits wide n h q

  refused_are : (o : Option (List A)) (wide : List A) → ((bits : List A) → o ≡ Some bits → All P bits) → or_refuse o Width ≡ Ok wide → All P wide
  refused_are None wide h e = absurd (cc)
  refused_are (Some bits) wide h e = let s : bits ≡ wide = cc in subst (All P) s (h bits refl)

  pub input_are : (shape : Shape) (bits wide : List A) → All P bits → input_bits shape bits ≡ Ok wide → All P wide
  input_are shape bits wide h e = refused_are (widened bits (length shape.numbers)) wide (λ some q. widened_are bits some (length shape.numbers) h q) e

  pub output_are : (shape : Shape) (bits wide : List A) → All P bits → output_bits shape bits ≡ Ok wide → All P wide
  output_are shape bits wide h e = by (length bits == length shape.numbers) e
    where
      by : (b : Bool) → demanded b Width (Ok bits) ≡ Ok wide → All P wide
      by true q = let s : bits ≡ wide = cc in subst (All P) s h
      by false q = absurd (cc)

-- to spread bits is to have them as often as they are wanted
pub spread_is : (bits : List BitRef) (n : ℕ) → spread bits n ≡ widened bits n
spread_is [] n = refl
spread_is (b ∷ []) n = refl
spread_is (b ∷ c ∷ bits) n = refl

-- ---- one value for each

module _ {X Y : Type 0} (step : X → Judged Y) where
  behind_step : (a b : List Y) (xs : List X) (j : Judged Y) → ((y : Y) → collected step ((a ++ b) ++ y ∷ []) xs ≡ jmap (λ ys. a ++ ys) (collected step (b ++ y ∷ []) xs)) →
      judging j (λ y. collected step ((a ++ b) ++ y ∷ []) xs) ≡ jmap (λ ys. a ++ ys) (judging j (λ y. collected step (b ++ y ∷ []) xs))
  behind_step a b xs (Ok y) h = h y
  behind_step a b xs (Err kind) h = refl

  -- what comes after does not look at what is there
  pub collected_behind : (a b : List Y) (xs : List X) → collected step (a ++ b) xs ≡ jmap (λ ys. a ++ ys) (collected step b xs)
  collected_behind a b [] = refl
  collected_behind a b (x ∷ xs) =
      behind_step a b xs (step x) (λ y. ap (λ so_far. collected step so_far xs) (append_assoc a b (y ∷ [])) ∙ collected_behind a (b ++ y ∷ []) xs)

module _ {X X' Y Y' : Type 0} (g : X → X') (f : Y → Y') (step : X → Judged Y) (step' : X' → Judged Y') (same : (x : X) → step' (g x) ≡ jmap f (step x)) where
  mapped_step : (j : Judged Y) (j' : Judged Y') (next : Y → Judged (List Y)) (next' : Y' → Judged (List Y')) →
      j' ≡ jmap f j → ((y : Y) → next' (f y) ≡ jmap (map f) (next y)) → judging j' next' ≡ jmap (map f) (judging j next)
  mapped_step (Ok y) j' next next' e h = rw e (h y)
  mapped_step (Err kind) j' next next' e h = rw e refl

  pub collected_map : (got : List Y) (xs : List X) → collected step' (map f got) (map g xs) ≡ jmap (map f) (collected step got xs)
  collected_map got [] = refl
  collected_map got (x ∷ xs) =
      mapped_step (step x) (step' (g x)) (λ y. collected step (got ++ y ∷ []) xs) (λ y. collected step' (map f got ++ y ∷ []) (map g xs)) (same x)
      (λ y. ap (λ so_far. collected step' so_far (map g xs)) (sym (map_push f got y)) ∙ collected_map (got ++ y ∷ []) xs)

module _ {X Y : Type 0} (P : X → Type 0) (Q : Y → Type 0) (step : X → Judged Y) (keeps : (x : X) (y : Y) → P x → step x ≡ Ok y → Q y) where
  all_step : (j : Judged Y) (next : Y → Judged (List Y)) (out : List Y) → ((y : Y) → j ≡ Ok y → Q y) →
      ((y : Y) → Q y → next y ≡ Ok out → All Q out) → judging j next ≡ Ok out → All Q out
  all_step (Ok y) next out h n e = n y (h y refl) e
  all_step (Err kind) next out h n e = absurd (cc)

  pub collected_are : (got : List Y) (xs : List X) (out : List Y) → All Q got → All P xs → collected step got xs ≡ Ok out → All Q out
  collected_are got [] out g h e = let s : got ≡ out = cc in subst (All Q) s g
  collected_are got (x ∷ xs) out g h e =
      all_step (step x) (λ y. collected step (got ++ y ∷ []) xs) out (λ y q. keeps x y (All-head P x xs h) q)
      (λ y q. collected_are (got ++ y ∷ []) xs out (All-push Q got y g q) (All-tail P x xs h)) e

-- ---- pairs

zip_map : {A B C : Type 0} (f : B → C) (xs : List A) (ys : List B) → zip xs (map f ys) ≡ map (λ (p : A × B). (p.0, f p.1)) (zip xs ys)
zip_map f [] ys = refl
zip_map f (x ∷ xs) [] = refl
zip_map f (x ∷ xs) (y ∷ ys) = ap (λ ps. (x, f y) ∷ ps) (zip_map f xs ys)

zip_are : {A B : Type 0} (P : B → Type 0) (xs : List A) (ys : List B) → All P ys → All (λ (p : A × B). P p.1) (zip xs ys)
zip_are {A = A} {B = B} P [] ys h = All-nil (λ (p : A × B). P p.1)
zip_are {A = A} {B = B} P (x ∷ xs) [] h = All-nil (λ (p : A × B). P p.1)
zip_are {A = A} {B = B} P (x ∷ xs) (y ∷ ys) h = All-cons (λ (p : A × B). P p.1) (x, y) (zip xs ys) (All-head P y ys h) (zip_are P xs ys (All-tail P y ys h))

zip_nothing : {A B : Type 0} (xs : List A) → zip {K = A} {X = B} xs [] ≡ []
zip_nothing [] = refl
zip_nothing (x ∷ xs) = refl

-- a loop over two lists at once, with the pairs that are left
module _ {A B Y : Type 0} (step : A × B → Judged Y) (xs : List A) (ys : List B) where
  pub zip_step : (i : ℕ) (x : A) (y : B) (got : List Y) (want : Judged (List Y)) → i < length xs → i < length ys → ((d : A) → x ≡ get_or xs i d) → ((d : B) → y ≡ get_or ys i d) →
      collected step got (zip (drop i xs) (drop i ys)) ≡ want → judging (step (x, y)) (λ made. collected step (got ++ made ∷ []) (zip (drop (i + 1) xs) (drop (i + 1) ys))) ≡ want
  zip_step i x y got want h k e f w =
      let split : zip (drop i xs) (drop i ys) ≡ (x, y) ∷ zip (drop (i + 1) xs) (drop (i + 1) ys) = rw (drop_more xs i x h, drop_more ys i y k, sym (e x), sym (f y)) refl in
      sym (ap (collected step got) split) ∙ w

  zip_done : (i : ℕ) → i ≡ min (length xs) (length ys) → zip (drop i xs) (drop i ys) ≡ []
  zip_done i e = elim (cases_lt (length xs) (length ys)) as (λ _. zip (drop i xs) (drop i ys) ≡ []) [
    | inl h ↦ let all : length xs ≤ i = omega arith in rw (drop_all i xs all) refl
    | inr h ↦ let all : length ys ≤ i = omega arith in rw (drop_all i ys all) (zip_nothing {A = A} {B = B} (drop i xs))
  ]

  pub zip_all : (i : ℕ) (got : List Y) (want : Judged (List Y)) → i ≡ min (length xs) (length ys) → collected step got (zip (drop i xs) (drop i ys)) ≡ want → want ≡ Ok got
  zip_all i got want e w = sym w ∙ ap (collected step got) (zip_done i e)

-- ---- one formal

module _ (names : List Name) where
  bound_map : (shape : Shape) (j : Judged (List BitRef)) (j' : Judged (List Bit)) → j' ≡ jmap (map (bit_of names)) j →
      judging j' (λ bits. Ok (bound shape bits)) ≡ jmap (bound_of names) (judging j (λ bits. Ok (bound_ref shape bits)))
  bound_map shape (Ok bits) j' e = rw e refl
  bound_map shape (Err kind) j' e = rw e refl

  input_bound_map : (p : Shape × numbered_joined.Joined) → input_bound (p.0, joined_of names p.1) ≡ jmap (bound_of names) (input_bound_ref p)
  input_bound_map p = bound_map p.0 (input_bits p.0 p.1.bits) (input_bits p.0 (map (bit_of names) p.1.bits)) (input_map (bit_of names) p.0 p.1.bits)

  output_bound_map : (p : Shape × numbered_joined.Joined) → output_bound (p.0, joined_of names p.1) ≡ jmap (bound_of names) (output_bound_ref p)
  output_bound_map p = bound_map p.0 (output_bits p.0 p.1.bits) (output_bits p.0 (map (bit_of names) p.1.bits)) (output_map (bit_of names) p.0 p.1.bits)

  inputs_map : (shapes : List Shape) (ins : List numbered_joined.Joined) →
      collected input_bound [] (zip shapes (map (joined_of names) ins)) ≡ jmap (map (bound_of names)) (collected input_bound_ref [] (zip shapes ins))
  inputs_map shapes ins = rw (zip_map (joined_of names) shapes ins)
      (collected_map (λ (p : Shape × numbered_joined.Joined). (p.0, joined_of names p.1))
      (bound_of names) input_bound_ref input_bound input_bound_map [] (zip shapes ins))

  outputs_map : (shapes : List Shape) (outs : List numbered_joined.Joined) → collected output_bound
      [] (zip shapes (map (joined_of names) outs)) ≡ jmap (map (bound_of names)) (collected output_bound_ref [] (zip shapes outs))
  outputs_map shapes outs =
      rw (zip_map (joined_of names) shapes outs) (collected_map (λ (p : Shape × numbered_joined.Joined). (p.0, joined_of names p.1))
      (bound_of names) output_bound_ref output_bound output_bound_map [] (zip shapes outs))

  abbrev scope_with : List ℕ → List Binding → List numbered_bound.Bound → Scope
  scope_with path env fs = record { path = path; suffix = []; env = env; formals = map (bound_of names) fs }

  outputs_then : (path : List ℕ) (env : List Binding) (inputs : List numbered_bound.Bound) (j k : Judged (List numbered_bound.Bound))
      (j' : Judged (List Bound)) → j' ≡ jmap (map (bound_of names)) j → k ≡ jmap (λ fs. inputs ++ fs) j →
      judging j' (λ outputs. Ok (record { path = path; suffix = []; env = env; formals = map (bound_of names) inputs ++ outputs })) ≡ jmap (scope_with path env) k
  outputs_then path env inputs (Ok fs) k j' e q = rw (e, q) (rw (map-append (bound_of names) inputs fs) refl)
  outputs_then path env inputs (Err kind) k j' e q = rw (e, q) refl

  inputs_then : (path : List ℕ) (inside : Inside) (outs : List numbered_joined.Joined) (j : Judged (List numbered_bound.Bound)) (j' : Judged (List Bound)) →
      j' ≡ jmap (map (bound_of names)) j →
      judging j' (λ inputs. judging (collected output_bound [] (zip inside.outs (map (joined_of names) outs)))
      (λ outputs. Ok (record { path = path; suffix = []; env = inside.env; formals = inputs ++ outputs })))
      ≡ jmap (scope_with path inside.env) (judging j (λ inputs. collected output_bound_ref inputs (zip inside.outs outs)))
  inputs_then path inside outs (Ok inputs) j' e =
      rw e
      (outputs_then path inside.env inputs (collected output_bound_ref [] (zip inside.outs outs))
      (collected output_bound_ref inputs (zip inside.outs outs)) (collected output_bound [] (zip inside.outs (map (joined_of names) outs)))
      (outputs_map inside.outs outs)
      (ap (λ so_far. collected output_bound_ref so_far (zip inside.outs outs)) (sym (append-nil inputs)) ∙ collected_behind output_bound_ref inputs [] (zip inside.outs outs)))
  inputs_then path inside outs (Err kind) j' e = rw e refl

  pub bound_scope_map : (path : List ℕ) (inside : Inside) (w : numbered_wires.Wires) → bound_scope path
      inside (map (joined_of names) w.ins) (map (joined_of names) w.outs) ≡ jmap (scope_with path inside.env) (bound_formals_ref inside w)
  unfolding bound_scope
  bound_scope_map path inside w = inputs_then path inside w.outs (collected input_bound_ref [] (zip inside.ins w.ins))
      (collected input_bound [] (zip inside.ins (map (joined_of names) w.ins))) (inputs_map inside.ins w.ins)

-- ---- the nets of the formals exist

module _ (nets : ℕ) where
  bound_are : (shape : Shape) (j : Judged (List BitRef)) (f : numbered_bound.Bound) →
      ((bits : List BitRef) → j ≡ Ok bits → All (BitExists nets) bits) → judging j (λ bits. Ok (bound_ref shape bits)) ≡ Ok f → BoundExists nets f
  bound_are shape (Ok bits) f h e = let s : bound_ref shape bits ≡ f = cc in subst (BoundExists nets) s (record { bits = h bits refl })
  bound_are shape (Err kind) f h e = absurd (cc)

  abbrev PairExists : Shape × numbered_joined.Joined → Type 0
  PairExists p = JoinedExists nets p.1

  input_exists : (p : Shape × numbered_joined.Joined) (f : numbered_bound.Bound) → JoinedExists nets p.1 → input_bound_ref p ≡ Ok f → BoundExists nets f
  input_exists p f h e = bound_are p.0 (input_bits p.0 p.1.bits) f (λ bits q. input_are (BitExists nets) p.0 p.1.bits bits h.bits q) e

  output_exists : (p : Shape × numbered_joined.Joined) (f : numbered_bound.Bound) → JoinedExists nets p.1 → output_bound_ref p ≡ Ok f → BoundExists nets f
  output_exists p f h e = bound_are p.0 (output_bits p.0 p.1.bits) f (λ bits q. output_are (BitExists nets) p.0 p.1.bits bits h.bits q) e

  inputs_exist : (inside : Inside) (w : numbered_wires.Wires) (j : Judged (List numbered_bound.Bound)) (fs : List numbered_bound.Bound) →
      All (JoinedExists nets) w.outs → ((inputs : List numbered_bound.Bound) → j ≡ Ok inputs → All (BoundExists nets) inputs) →
      judging j (λ inputs. collected output_bound_ref inputs (zip inside.outs w.outs)) ≡ Ok fs → All (BoundExists nets) fs
  inputs_exist inside w (Ok inputs) fs o h e = collected_are PairExists (BoundExists nets) output_bound_ref
      output_exists inputs (zip inside.outs w.outs) fs (h inputs refl) (zip_are (JoinedExists nets) inside.outs w.outs o) e
  inputs_exist inside w (Err kind) fs o h e = absurd (cc)

  pub formals_exist : (inside : Inside) (w : numbered_wires.Wires) (fs : List numbered_bound.Bound) →
      All (JoinedExists nets) w.ins → All (JoinedExists nets) w.outs → bound_formals_ref inside w ≡ Ok fs → All (BoundExists nets) fs
  formals_exist inside w fs i o e =
      inputs_exist inside w (collected input_bound_ref [] (zip inside.ins w.ins)) fs o
      (λ inputs q. collected_are PairExists (BoundExists nets) input_bound_ref input_exists
      [] (zip inside.ins w.ins) inputs (All-nil (BoundExists nets)) (zip_are (JoinedExists nets) inside.ins w.ins i) q) e

-- ---- the scope of a body

module _ (consts : List Binding) (m : Macro) (given : List Binding) (s : numbered_scope.Scope) (u : UseStatement) (e : Expansion) where
  pub inside_failed : (stop : Stop) → IsJudgedRefusal u.place stop (inside_of consts m given) →
      Failed stop (inner_scope consts m given (scope_of (names_in e) s) u (state_of e))
  unfolding inner_scope
  inside_failed stop h = record { agrees = λ r is. rw (h.agrees r is, sym (h.here r is)) refl }

  module _ (inside : Inside) (inside_is : inside_of consts m given ≡ Ok inside) where
    pub wires_of_failed : (stop : Stop) → Failed stop (wires_of (scope_of (names_in e) s) u (state_of e)) →
        Failed stop (inner_scope consts m given (scope_of (names_in e) s) u (state_of e))
    unfolding inner_scope
    wires_of_failed stop h = record { agrees = λ r is. rw (inside_is, h.agrees r is) refl }

    module _ (f : Expansion) (w : numbered_wires.Wires) (g : GivesWires e f w (wires_of (scope_of (names_in e) s) u (state_of e))) where
      pub formals_failed : (stop : Stop) → IsJudgedRefusal u.place stop (bound_formals_ref inside w) →
          Failed stop (inner_scope consts m given (scope_of (names_in e) s) u (state_of e))
      unfolding inner_scope
      formals_failed stop h = record {
        agrees = λ r is. rw (
          inside_is,
          g.is,
          bound_scope_map (names_in f) (inner_path (scope_of (names_in e) s) u.label) inside w,
          h.agrees r is,
          sym (h.here r is),
        ) refl;
      }

      pub scope_given : (fs : List numbered_bound.Bound) → bound_formals_ref inside w ≡ Ok fs → GivesScope e f
          (record {
            path = inner_path (scope_of (names_in e) s) u.label;
            suffix = [];
            env = inside.env;
            formals = fs;
          }) (inner_scope consts m given (scope_of (names_in e) s) u (state_of e))
      unfolding inner_scope
      scope_given fs h = record {
        is = rw (inside_is, g.is, bound_scope_map (names_in f) (inner_path (scope_of (names_in e) s) u.label) inside w, h) refl;
        grows = g.grows;
        exists = record { formals = formals_exist (nets_in f) inside w fs g.ins g.outs h };
      }
