-- Words and numbers: what is read is spelled so, and what is spelled so is read.
use Rattle.std.proofs.Common.{◌≡◌, ℕ, ◌+◌, ◌-◌, ◌*◌, ◌/◌, ◌%◌, ◌<◌, ◌≤◌, Bool, true, false, ◌&&◌, cond, ltb, leb, List, [], ◌∷◌, ◌++◌, length, take, drop, Option, Some, None, ◌⊎◌, inl, inr, refl, sym, ap, subst, ◌∙◌, append_assoc, arith}
use Rattle.std.specs.Prelude.{decimal}
use Rattle.std.specs.Char.{is_ascii_digit}
use Rattle.std.specs.Str.{bytes_eq}
use Rattle.std.proofs.lemmas.Bool.{and_parts, and_from, leb-true, le-leb, ltb-true, lt-ltb}
use Rattle.std.proofs.lemmas.Option.{same_Some, cond_some}
use Rattle.std.proofs.lemmas.Slice.Eq.{bytes_eq-Decides}
use Rattle.std.proofs.lemmas.List.{take_at, drop_at, take-append-drop}
use Rattle.std.proofs.lemmas.Fmt.{decimal_digit, decimal_step, decimal_by_steps}
use Rattle.assertion_syntax.specs.Reading.{◌>>=◌, either, literal_at, digits_at, number_at, limited_at}

-- ---- steps and tests

-- the value of a step that read something
pub bind_some : {A B : Type 0} (r : Option A) (f : A → Option B) (y : B) → (r >>= f) ≡ Some y → (x : A) × (r ≡ Some x) × (f x ≡ Some y)
bind_some None f y e = absurd cc
bind_some (Some x) f y e = (x, refl, e)

-- which way was taken
pub either_parts : {A B : Type 0} (r : Option A) (none : B) (some : A → B) (z : B) → either r none some ≡ z → ((r ≡ None) × (none ≡ z)) ⊎ ((x : A) × (r ≡ Some x) × (some x ≡ z))
either_parts None none some z e = inl (refl, e)
either_parts (Some x) none some z e = inr (x, refl, e)

-- the side that a test chose
pub chosen : {A : Type 0} (b : Bool) (x y z : A) → cond b x y ≡ z → ((b ≡ true) × (x ≡ z)) ⊎ ((b ≡ false) × (y ≡ z))
chosen true x y z e = inl (refl, e)
chosen false x y z e = inr (refl, e)

-- a test without which nothing is read
pub passed : {A : Type 0} (b : Bool) (r : Option A) (y : A) → cond b r None ≡ Some y → (b ≡ true) × (r ≡ Some y)
passed true r y e = (refl, e)
passed false r y e = absurd cc

digit_test : (b : ℕ) → is_ascii_digit b ≡ true → (48 ≤ b) × (b ≤ 57)
digit_test b e = let p = and_parts (leb 48 b) (leb b 57) e in (leb-true 48 b p.0, leb-true b 57 p.1)

is_digit : (b : ℕ) → 48 ≤ b → b ≤ 57 → is_ascii_digit b ≡ true
is_digit b low high = and_from (leb 48 b) (leb b 57) (le-leb 48 b low) (le-leb b 57 high)

abbrev pub digit_ahead : List ℕ → Bool
digit_ahead [] = false
digit_ahead (b ∷ rest) = is_ascii_digit b

-- no number goes on with this word
abbrev pub EndsNumber : List ℕ → Type 0
EndsNumber word = (rest : List ℕ) → digit_ahead (word ++ rest) ≡ false

-- ---- words

pub literal_takes : (word rest left : List ℕ) → literal_at word rest ≡ Some left → rest ≡ word ++ left
unfolding literal_at
literal_takes word rest left e =
    let c = cond_some (bytes_eq (take (length word) rest) word) (drop (length word) rest) left e in
    let same : take (length word) rest ≡ word = (bytes_eq-Decides (take (length word) rest) word).0 c.0 in
    sym (take-append-drop (length word) rest) ∙ ap (λ (x : List ℕ). x ++ drop (length word) rest) same ∙ ap (λ (x : List ℕ). word ++ x) c.1

pub literal_again : (word left : List ℕ) → literal_at word (word ++ left) ≡ Some left
unfolding literal_at
literal_again word left =
    let same : bytes_eq (take (length word) (word ++ left)) word ≡ true = (bytes_eq-Decides (take (length word) (word ++ left)) word).1 (take_at word left (length word) refl) in
    rw (same, drop_at word left (length word) refl) refl

-- ---- numbers

-- one more digit at the end of a number
decimal_more : (n b : ℕ) → 0 < n → n < 10000 → 48 ≤ b → b ≤ 57 → decimal (n * 10 + (b - 48)) ≡ decimal n ++ b ∷ []
decimal_more n b some small low high =
    let front : (n * 10 + (b - 48)) / 10 ≡ n = omega arith in
    let last : 48 + (n * 10 + (b - 48)) % 10 ≡ b = omega arith in
    decimal_step (n * 10 + (b - 48)) (omega arith) (omega arith) ∙ ap (λ (k : ℕ). decimal k ++ (48 + (n * 10 + (b - 48)) % 10) ∷ []) front ∙ ap (λ (k : ℕ). decimal n ++ k ∷ []) last

abbrev Takes : ℕ → List ℕ → ℕ × List ℕ → Type 0
Takes value rest x = (decimal value ++ rest ≡ decimal x.0 ++ x.1) × (x.0 < 10000)

digits_take : (rest : List ℕ) (value : ℕ) (x : ℕ × List ℕ) → value < 10000 → digits_at value rest ≡ Some x → Takes value rest x
unfolding digits_at
digits_take [] value x small e = subst (λ (y : ℕ × List ℕ). Takes value [] y) (same_Some (value, []) x e) (refl, small)
digits_take (b ∷ rest) value x small e =
    elim (chosen (is_ascii_digit b) (cond (ltb 0 value && ltb value 1000) (digits_at (value * 10 + (b - 48)) rest) None) (Some (value, b ∷ rest)) (Some x) e) [
      | inl taken ↦
          let digit = digit_test b taken.0 in
          let more = passed (ltb 0 value && ltb value 1000) (digits_at (value * 10 + (b - 48)) rest) x taken.1 in
          let tests = and_parts (ltb 0 value) (ltb value 1000) more.0 in
          let some : 0 < value = ltb-true 0 value tests.0 in
          let short : value < 1000 = ltb-true value 1000 tests.1 in
          let onward = digits_take rest (value * 10 + (b - 48)) x (omega arith) more.1 in
          (sym (append_assoc (decimal value) (b ∷ []) rest) ∙ ap (λ (ds : List ℕ). ds ++ rest) (sym (decimal_more value b some small digit.0 digit.1)) ∙ onward.0, onward.1)
      | inr ended ↦ subst (λ (y : ℕ × List ℕ). Takes value (b ∷ rest) y) (same_Some (value, b ∷ rest) x ended.1) (refl, small)
    ]

pub number_takes : (rest : List ℕ) (x : ℕ × List ℕ) → number_at rest ≡ Some x → (rest ≡ decimal x.0 ++ x.1) × (x.0 < 10000)
unfolding number_at
number_takes [] x e = absurd cc
number_takes (b ∷ rest) x e =
    let go = passed (is_ascii_digit b) (digits_at (b - 48) rest) x e in
    let digit = digit_test b go.0 in
    let onward = digits_take rest (b - 48) x (omega arith) go.1 in
    let first : b ∷ [] ≡ decimal (b - 48) = ap (λ (k : ℕ). k ∷ []) (let k : b ≡ 48 + (b - 48) = omega arith in k) ∙ sym (decimal_digit (b - 48) (omega arith)) in
    (ap (λ (ds : List ℕ). ds ++ rest) first ∙ onward.0, onward.1)

-- the digits of a number are read one after another
digits_step : (n b : ℕ) (rest : List ℕ) → 0 < n → n < 1000 → 48 ≤ b → b ≤ 57 → digits_at n (b ∷ rest) ≡ digits_at (n * 10 + (b - 48)) rest
unfolding digits_at
digits_step n b rest some short low high =
    rw (is_digit b low high, and_from (ltb 0 n) (ltb n 1000) (lt-ltb 0 n some) (lt-ltb n 1000 short)) refl

number_begins : (b : ℕ) (rest : List ℕ) → 48 ≤ b → b ≤ 57 → number_at (b ∷ rest) ≡ digits_at (b - 48) rest
unfolding number_at
number_begins b rest low high = rw (is_digit b low high) refl

abbrev IsReadAs : ℕ → List ℕ → Type 0
IsReadAs n ds = n < 10000 → (rest : List ℕ) → number_at (ds ++ rest) ≡ digits_at n rest

one_digit_read : (n : ℕ) → n < 10 → IsReadAs n ((48 + n) ∷ [])
one_digit_read n low small rest =
    let back : 48 + n - 48 ≡ n = omega arith in
    number_begins (48 + n) rest (omega arith) (omega arith) ∙ ap (λ (k : ℕ). digits_at k rest) back

last_digit_read : (n : ℕ) (ds : List ℕ) → 10 ≤ n → IsReadAs (n / 10) ds → IsReadAs n (ds ++ ((48 + n % 10) ∷ []))
last_digit_read n ds long front small rest =
    let last = 48 + n % 10 in
    let whole : n / 10 * 10 + (48 + n % 10 - 48) ≡ n = omega arith in
    ap number_at (append_assoc ds (last ∷ []) rest) ∙ front (omega arith) (last ∷ rest)
    ∙ digits_step (n / 10) last rest (omega arith) (omega arith) (omega arith) (omega arith) ∙ ap (λ (k : ℕ). digits_at k rest) whole

digits_stop : (n : ℕ) (rest : List ℕ) → digit_ahead rest ≡ false → digits_at n rest ≡ Some (n, rest)
unfolding digits_at
digits_stop n [] stop = refl
digits_stop n (b ∷ rest) stop = rw stop refl

pub number_again : (n : ℕ) (rest : List ℕ) → n < 10000 → digit_ahead rest ≡ false → number_at (decimal n ++ rest) ≡ Some (n, rest)
number_again n rest small stop =
    decimal_by_steps IsReadAs one_digit_read last_digit_read n (omega arith) small rest ∙ digits_stop n rest stop

-- ---- numbers up to a limit

pub limited_takes : (limit : ℕ) (rest : List ℕ) (x : ℕ × List ℕ) → limited_at limit rest ≡ Some x → (rest ≡ decimal x.0 ++ x.1) × (x.0 ≤ limit)
unfolding limited_at
limited_takes limit rest x e =
    let s = bind_some (number_at rest) (λ n. cond (leb n.0 limit) (Some (n.0, n.1)) None) x e in
    let n = s.0 in
    let c = cond_some (leb n.0 limit) (n.0, n.1) x s.2 in
    subst (λ (y : ℕ × List ℕ). (rest ≡ decimal y.0 ++ y.1) × (y.0 ≤ limit)) c.1
    ((number_takes rest n s.1).0, leb-true n.0 limit c.0)

pub limited_again : (limit n : ℕ) (rest : List ℕ) → n ≤ limit → limit < 10000 → digit_ahead rest ≡ false → limited_at limit (decimal n ++ rest) ≡ Some (n, rest)
unfolding limited_at
limited_again limit n rest low small stop = rw (number_again n rest (omega arith) stop, le-leb n limit low) refl
