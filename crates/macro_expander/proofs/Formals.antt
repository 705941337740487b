-- What a formal's name means, by numbers and by names.
use Rattle.std.proofs.Common.{◌≡◌, ℕ, zero, suc, ℤ, Bool, true, false, List, [], ◌∷◌, ◌++◌, map, Option, Some, None, Result, Ok, Err, refl, ap, sym, ◌∙◌, subst}
use Rattle.std.specs.Option.{option_map}
use Rattle.std.specs.List.{All, find, position, slice_get}
use Rattle.std.specs.Prelude.{◌==◌, if◌then◌else◌}
use Rattle.std.specs.Str.{bytes_eq}
use Rattle.flat_circuit.specs.Name.{Name}
use Rattle.std.proofs.lemmas.List.{map_push}
use Rattle.std.proofs.lemmas.Option.{slice_get-map}
use Rattle.std.proofs.lemmas.List.Elements.{All-head, All-tail, All-push, All-nil}
use Rattle.scald_base.specs.declared.assertion.AssertSpec.{AssertSpec}
use Rattle.scald_base.specs.declared.assertion.AssertSpec.TheVariants.{None as Unasserted, Precision, Clock, Stable}
use Rattle.scald_base.specs.declared.refusal.Place.{Place}
use Rattle.scald_base.specs.declared.refusal.RefusalKind.{RefusalKind}
use Rattle.scald_base.specs.declared.refusal.RefusalKind.TheVariants.{BadRange}
use Rattle.scald_base.specs.declared.refusal.Stop.{Stop}
use Rattle.assertion_syntax.specs.declared.name.SignalName.{SignalName}
use Rattle.vector_names.specs.declared.bits.BitRef.{BitRef}
use Rattle.macro_expander.specs.declared.expansion.Expansion.{Expansion}
use Rattle.macro_expander.specs.declared.scope.Bound as numbered_bound
use Rattle.macro_expander.specs.declared.scope.Scope as numbered_scope
use Rattle.macro_expander.specs.Outcome.{Judged, judging, or_refuse, collected}
use Rattle.macro_expander.specs.Steps.{JudgedAt}
use Rattle.macro_expander.specs.Terms.{Bound, bit_at_place, bit_numbered, outer_bit, outer_bits, formal_bits, if_unasserted, formal_term, formal_of, net_text, meant, named_bits, numbers_between}
use Rattle.macro_expander.specs.Numbered.{bit_of, bound_of, scope_of, BitExists, BoundExists, ScopeExists, BitsAt, nets_in, names_in, state_of}
use Rattle.macro_expander.proofs.Lists.{find_map, found_is}
use Rattle.macro_expander.proofs.Nets.{grows_refl}

-- ---- judgements of bits that are seen otherwise

abbrev pub jmap : {A B : Type 0} → (A → B) → Judged A → Judged B
jmap f (Ok a) = Ok (f a)
jmap f (Err kind) = Err kind

module _ {A B : Type 0} (f : A → B) where
  place_map : (bits : List A) (p : Option ℕ) → bit_at_place (map f bits) p ≡ option_map f (bit_at_place bits p)
  place_map bits None = refl
  place_map bits (Some k) = slice_get-map f bits k

  numbered_map : (numbers : List ℕ) (bits : List A) (i : ℕ) → bit_numbered numbers (map f bits) i ≡ option_map f (bit_numbered numbers bits i)
  unfolding bit_numbered
  numbered_map numbers bits i = place_map bits (position (λ n. n == i) numbers)

  pub or_refuse_map : (o : Option A) (kind : RefusalKind) → or_refuse (option_map f o) kind ≡ jmap f (or_refuse o kind)
  or_refuse_map None kind = refl
  or_refuse_map (Some a) kind = refl

  outer_bit_map : (numbers : List ℕ) (bits : List A) (i : ℕ) → outer_bit numbers (map f bits) i ≡ jmap f (outer_bit numbers bits i)
  outer_bit_map numbers bits i = ap (λ o. or_refuse o BadRange) (numbered_map numbers bits i) ∙ or_refuse_map (bit_numbered numbers bits i) BadRange

  step_map : (j : Judged A) (j' : Judged B) (next : A → Judged (List A)) (next' : B → Judged (List B)) →
      j' ≡ jmap f j → ((a : A) → next' (f a) ≡ jmap (map f) (next a)) → judging j' next' ≡ jmap (map f) (judging j next)
  step_map (Ok a) j' next next' e h = rw e (h a)
  step_map (Err kind) j' next next' e h = rw e refl

  outer_bits_map : (numbers : List ℕ) (bits got : List A) (chosen : List ℕ) →
      collected (outer_bit numbers (map f bits)) (map f got) chosen ≡ jmap (map f) (collected (outer_bit numbers bits) got chosen)
  outer_bits_map numbers bits got [] = refl
  outer_bits_map numbers bits got (i ∷ chosen) =
      step_map (outer_bit numbers bits i) (outer_bit numbers (map f bits) i) (λ a. collected (outer_bit numbers bits) (got ++ a ∷ []) chosen)
      (λ b. collected (outer_bit numbers (map f bits)) (map f got ++ b ∷ []) chosen) (outer_bit_map numbers bits i)
      (λ a. ap (λ so_far. collected (outer_bit numbers (map f bits)) so_far chosen) (sym (map_push f got a)) ∙ outer_bits_map numbers bits (got ++ a ∷ []) chosen)

  chosen_map : (numbers : List ℕ) (bits : List A) (j : Judged (List ℕ)) →
      judging j (λ chosen. outer_bits numbers (map f bits) chosen) ≡ jmap (map f) (judging j (λ chosen. outer_bits numbers bits chosen))
  chosen_map numbers bits (Ok chosen) = outer_bits_map numbers bits [] chosen
  chosen_map numbers bits (Err kind) = refl

  formal_bits_map : (numbers : List ℕ) (bits : List A) (ends : Option (ℤ × ℤ)) → formal_bits numbers (map f bits) ends ≡ jmap (map f) (formal_bits numbers bits ends)
  formal_bits_map numbers bits None = refl
  formal_bits_map numbers bits (Some ends) = chosen_map numbers bits (numbers_between ends)

  unasserted_map : (spec : AssertSpec) (bits : List A) → if_unasserted spec (map f bits) ≡ jmap (map f) (if_unasserted spec bits)
  unasserted_map Unasserted bits = refl
  unasserted_map (Precision c) bits = refl
  unasserted_map (Clock c) bits = refl
  unasserted_map (Stable c) bits = refl

  term_map : (spec : AssertSpec) (j : Judged (List A)) (j' : Judged (List B)) → j' ≡ jmap (map f) j →
      judging j' (λ chosen. if_unasserted spec chosen) ≡ jmap (map f) (judging j (λ chosen. if_unasserted spec chosen))
  term_map spec (Ok bits) j' e = rw e (unasserted_map spec bits)
  term_map spec (Err kind) j' e = rw e refl

  pub formal_term_map : (numbers : List ℕ) (bits : List A) (spec : AssertSpec) (ends : Option (ℤ × ℤ)) →
      formal_term numbers (map f bits) spec ends ≡ jmap (map f) (formal_term numbers bits spec ends)
  unfolding formal_term
  formal_term_map numbers bits spec ends = term_map spec (formal_bits numbers bits ends) (formal_bits numbers (map f bits) ends) (formal_bits_map numbers bits ends)

-- ---- what holds of each outer bit holds of those that are chosen

module _ {A : Type 0} (P : A → Type 0) (numbers : List ℕ) (bits : List A) (h : All P bits) where
  got_is : (xs : List A) (k : ℕ) (a : A) → All P xs → slice_get xs k ≡ Some a → P a
  got_is [] k a g e = absurd (cc)
  got_is (x ∷ xs) zero a g e = let s : x ≡ a = cc in subst P s (All-head P x xs g)
  got_is (x ∷ xs) (suc k) a g e = got_is xs k a (All-tail P x xs g) e

  is_place : (p : Option ℕ) (a : A) → bit_at_place bits p ≡ Some a → P a
  is_place None a e = absurd (cc)
  is_place (Some k) a e = got_is bits k a h e

  refuse_is : (o : Option A) (a : A) → ((x : A) → o ≡ Some x → P x) → or_refuse o BadRange ≡ Ok a → P a
  refuse_is None a k e = absurd (cc)
  refuse_is (Some x) a k e = let s : x ≡ a = cc in subst P s (k x refl)

  outer_is : (i : ℕ) (a : A) → outer_bit numbers bits i ≡ Ok a → P a
  unfolding bit_numbered
  outer_is i a e = refuse_is (bit_numbered numbers bits i) a (λ x q. is_place (position (λ n. n == i) numbers) x q) e

  step_is : (j : Judged A) (next : A → Judged (List A)) (out : List A) → ((a : A) → j ≡ Ok a → P a) →
      ((a : A) → P a → next a ≡ Ok out → All P out) → judging j next ≡ Ok out → All P out
  step_is (Ok a) next out k n e = n a (k a refl) e
  step_is (Err kind) next out k n e = absurd (cc)

  outers_are : (got : List A) (chosen : List ℕ) (out : List A) → All P got → collected (outer_bit numbers bits) got chosen ≡ Ok out → All P out
  outers_are got [] out g e = let s : got ≡ out = cc in subst (All P) s g
  outers_are got (i ∷ chosen) out g e =
      step_is (outer_bit numbers bits i) (λ a. collected (outer_bit numbers bits) (got ++ a ∷ []) chosen) out (outer_is i)
      (λ a p q. outers_are (got ++ a ∷ []) chosen out (All-push P got a g p) q) e

  chosen_are : (j : Judged (List ℕ)) (out : List A) → judging j (λ chosen. outer_bits numbers bits chosen) ≡ Ok out → All P out
  chosen_are (Ok chosen) out e = outers_are [] chosen out (All-nil P) e
  chosen_are (Err kind) out e = absurd (cc)

  formal_are : (ends : Option (ℤ × ℤ)) (out : List A) → formal_bits numbers bits ends ≡ Ok out → All P out
  formal_are None out e = let s : bits ≡ out = cc in subst (All P) s h
  formal_are (Some ends) out e = chosen_are (numbers_between ends) out e

  unasserted_are : (spec : AssertSpec) (xs out : List A) → All P xs → if_unasserted spec xs ≡ Ok out → All P out
  unasserted_are Unasserted xs out g e = let s : xs ≡ out = cc in subst (All P) s g
  unasserted_are (Precision c) xs out g e = absurd (cc)
  unasserted_are (Clock c) xs out g e = absurd (cc)
  unasserted_are (Stable c) xs out g e = absurd (cc)

  term_are : (spec : AssertSpec) (j : Judged (List A)) (out : List A) → ((xs : List A) → j ≡ Ok xs → All P xs) → judging j (λ chosen. if_unasserted spec chosen) ≡ Ok out → All P out
  term_are spec (Ok xs) out k e = unasserted_are spec xs out (k xs refl) e
  term_are spec (Err kind) out k e = absurd (cc)

  pub formal_term_are : (spec : AssertSpec) (ends : Option (ℤ × ℤ)) (out : List A) → formal_term numbers bits spec ends ≡ Ok out → All P out
  unfolding formal_term
  formal_term_are spec ends out e = term_are spec (formal_bits numbers bits ends) out (λ xs q. formal_are ends xs q) e

-- ---- names

abbrev pub numbered_formal : List numbered_bound.Bound → SignalName → Option numbered_bound.Bound
numbered_formal formals name = if name.global then None else find (λ f. bytes_eq f.base name.base) formals

formal_of_map : (names : List Name) (formals : List numbered_bound.Bound) (name : SignalName) →
    formal_of (map (bound_of names) formals) name ≡ option_map (bound_of names) (numbered_formal formals name)
formal_of_map names formals name = by name.global
  where
    by : (g : Bool) → (if g then None else find (λ f. bytes_eq f.base name.base) (map (bound_of names) formals)) ≡ option_map (bound_of names)
        (if g then None else find (λ f. bytes_eq f.base name.base) formals)
    by true = refl
    by false = find_map (λ f. bytes_eq f.base name.base) (bound_of names) formals

formal_is : (P : numbered_bound.Bound → Type 0) (formals : List numbered_bound.Bound) (name : SignalName) (f : numbered_bound.Bound) →
    All P formals → numbered_formal formals name ≡ Some f → P f
formal_is P formals name f h e = by name.global e
  where
    by : (g : Bool) → (if g then None else find (λ x. bytes_eq x.base name.base) formals) ≡ Some f → P f
    by true q = absurd (cc)
    by false q = found_is P (λ x. bytes_eq x.base name.base) formals f h q

module _ (e : Expansion) (s : numbered_scope.Scope) (name : SignalName) (ends : Option (ℤ × ℤ)) (place : Place) where
  -- a formal's name
  bound_term : (f : numbered_bound.Bound) (r : Result (List BitRef) Stop) → All (BitExists (nets_in e)) f.bits → JudgedAt place r (formal_term f.numbers f.bits name.spec ends) →
      BitsAt e e r (meant (Some (bound_of (names_in e) f)) (net_text s.path name) name.spec ends place (state_of e))
  bound_term f (Ok bits) h j = record {
    is = rw (formal_term_map (bit_of (names_in e)) f.numbers f.bits name.spec ends, j) refl;
    grows = grows_refl e;
    exist = formal_term_are (BitExists (nets_in e)) f.numbers f.bits h name.spec ends bits j;
  }
  bound_term f (Err stop) h j = record {
    agrees = λ r is.
        let kind = j.agrees r is in
        let place_is = j.here r is in
        rw (formal_term_map (bit_of (names_in e)) f.numbers f.bits name.spec ends, kind, sym place_is) refl;
  }

  pub named_formal : (f : numbered_bound.Bound) (r : Result (List BitRef) Stop) → ScopeExists (nets_in e) s →
      numbered_formal s.formals name ≡ Some f → JudgedAt place r (formal_term f.numbers f.bits name.spec ends) →
      BitsAt e e r (named_bits (scope_of (names_in e) s) name ends place (state_of e))
  unfolding named_bits
  named_formal f r h found j =
      let is = formal_of_map (names_in e) s.formals name ∙ ap (option_map (bound_of (names_in e))) found in
      subst (λ (o : Option Bound). BitsAt e e r (meant o (net_text s.path name) name.spec ends place (state_of e))) (sym is)
      (bound_term f r (formal_is (BoundExists (nets_in e)) s.formals name f h.formals found).bits j)

  pub named_net : (e' : Expansion) (r : Result (List BitRef) Stop) → numbered_formal s.formals name ≡ None →
      BitsAt e e' r (meant None (net_text s.path name) name.spec ends place (state_of e)) →
      BitsAt e e' r (named_bits (scope_of (names_in e) s) name ends place (state_of e))
  unfolding named_bits
  named_net e' r found h =
      let is = formal_of_map (names_in e) s.formals name ∙ ap (option_map (bound_of (names_in e))) found in
      subst (λ (o : Option Bound). BitsAt e e' r (meant o (net_text s.path name) name.spec ends place (state_of e))) (sym is) h
