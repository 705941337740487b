-- Words are read by their form.
use Rattle.std.proofs.Common.{◌≡◌, ◌<◌, ◌≤◌, ◌+◌, ◌^◌, ℕ, suc, Bool, true, false, ◌&&◌, cond, nat_le, List, [], ◌∷◌, ◌++◌, length, take, drop, codes, decimal, Option, Some, None, Err, refl, sym, ap, subst, ◌∙◌, append-nil, append_assoc, arith}
use Rattle.std.specs.Prelude.{◌≢◌}
use Rattle.std.specs.Str.{bytes_eq}
use Rattle.std.proofs.lemmas.Bool.{and_parts, leb-true, le-leb}
use Rattle.std.proofs.lemmas.Slice.Eq.{bytes_eq-Decides}
use Rattle.std.proofs.lemmas.List.{take-append-drop}
use Rattle.scald_lex.specs.Bytes.{value_of}
use Rattle.drawing_grammar.proofs.Leaves.{is_numeral}
use Rattle.listing.specs.declared.case.Mode.{Mode}
use Rattle.listing.specs.declared.case.Mode.TheVariants.{Full, Waves, Faults}
use Rattle.scald_tool.specs.declared.words.Command.{Command}
use Rattle.scald_tool.specs.declared.words.Command.TheVariants.{Verify, Format, Upgrade, Bench}
use Rattle.program_call.specs.Numbers.{most_rounds, number_after, number_in, rounds_of}
use Rattle.scald_tool.specs.Words.{alone, behind_mode, behind_verify, behind_bench, from_mode, most_sections, with_limit, with_sections}
use Rattle.scald_tool.specs.Forms.{mode_words, words_for, MayBeAsked, GoesOn, GoesWrong, AreReadAs, WordsAreRead, WordsAreKnown}

-- ---- tests of bytes

same_bytes : (xs ys : List ℕ) → bytes_eq xs ys ≡ true → xs ≡ ys
same_bytes xs ys e = (bytes_eq-Decides xs ys).0 e

other_bytes : (xs ys : List ℕ) → bytes_eq xs ys ≡ false → xs ≢ ys
other_bytes xs ys e same = let yes : bytes_eq xs ys ≡ true = (bytes_eq-Decides xs ys).1 same in absurd (cc)

alike : (xs ys : List ℕ) → xs ≡ ys → bytes_eq xs ys ≡ true
alike xs ys same = (bytes_eq-Decides xs ys).1 same

-- ---- numbers

-- a number of 1 to the most
abbrev IsFrom : ℕ → ℕ → Type 0
IsFrom most n = (1 ≤ n) × (n ≤ most)

abbrev IsNumber : ℕ → List ℕ → Option ℕ → Type 0
IsNumber most digits (Some n) = (digits ≡ decimal n) × IsFrom most n
IsNumber most digits None = (n : ℕ) → IsFrom most n → digits ≢ decimal n

value_decimal : (n : ℕ) → n < 2 ^ 64 → value_of (decimal n) ≡ n
value_decimal n few = (is_numeral n few).value

passes : (most : ℕ) (digits : List ℕ) (v : ℕ) → digits ≡ decimal v → IsFrom most v → (bytes_eq digits (decimal v) && (nat_le 1 v && nat_le v most)) ≡ true
passes most digits v same from = rw (alike digits (decimal v) same, le-leb 1 v from.0, le-leb v most from.1) refl

by_test : (most : ℕ) (digits : List ℕ) (v : ℕ) (t : Bool) → most < 2 ^ 64 → v ≡ value_of digits →
    (bytes_eq digits (decimal v) && (nat_le 1 v && nat_le v most)) ≡ t → IsNumber most digits (cond t (Some v) None)
by_test most digits v true few value e =
    let first = and_parts (bytes_eq digits (decimal v)) (nat_le 1 v && nat_le v most) e in
    let second = and_parts (nat_le 1 v) (nat_le v most) first.1 in
    (same_bytes digits (decimal v) first.0, (leb-true 1 v second.0, leb-true v most second.1))
by_test most digits v false few value e = λ n from same.
    let is : v ≡ n = value ∙ ap value_of same ∙ value_decimal n (omega (arith, few, from.1)) in
    let yes : (bytes_eq digits (decimal v) && (nat_le 1 v && nat_le v most)) ≡ true = passes most digits v (same ∙ ap decimal (sym is)) (subst (IsFrom most) (sym is) from) in
    absurd (cc)

number_is : (most : ℕ) (digits : List ℕ) → most < 2 ^ 64 → IsNumber most digits (number_in most digits)
unfolding number_in
number_is most digits few = by_test most digits (value_of digits) (bytes_eq digits (decimal (value_of digits)) && (nat_le 1 (value_of digits) && nat_le (value_of digits) most)) few refl refl

number_of : (most n : ℕ) → most < 2 ^ 64 → IsFrom most n → number_in most (decimal n) ≡ Some n
number_of most n few from = found (number_in most (decimal n)) (number_is most (decimal n) few)
  where
    found : (read : Option ℕ) → IsNumber most (decimal n) read → read ≡ Some n
    found None none = absurd (none n from refl)
    found (Some k) is =
        let same : n ≡ k = sym (value_decimal n (omega (arith, few, from.1))) ∙ ap value_of is.0 ∙ value_decimal k (omega (arith, few, is.1.1)) in
        ap Some (sym same)

-- ---- the word with the limit

abbrev IsLimit : List ℕ → Option ℕ → Type 0
IsLimit word (Some n) = (word ≡ codes "rounds=" ++ decimal n) × IsFrom most_rounds n
IsLimit word None = (n : ℕ) → IsFrom most_rounds n → word ≢ codes "rounds=" ++ decimal n

limit_front : (word : List ℕ) (t : Bool) → bytes_eq (take 7 word) (codes "rounds=") ≡ t → IsLimit word (number_after most_rounds (cond t (Some (drop 7 word)) None))
limit_front word true e = by_number (number_in most_rounds (drop 7 word)) (number_is most_rounds (drop 7 word) (omega arith))
  where
    whole : codes "rounds=" ++ drop 7 word ≡ word
    whole = ap (λ (front : List ℕ). front ++ drop 7 word) (sym (same_bytes (take 7 word) (codes "rounds=") e)) ∙ take-append-drop 7 word

    by_number : (found : Option ℕ) → IsNumber most_rounds (drop 7 word) found → IsLimit word found
    by_number (Some n) is = (sym whole ∙ ap (λ (rest : List ℕ). codes "rounds=" ++ rest) is.0, is.1)
    by_number None is = λ n from same. is n from (ap (drop 7) same)
limit_front word false e = λ n from same. other_bytes (take 7 word) (codes "rounds=") e (ap (take 7) same)

limit_is : (word : List ℕ) → IsLimit word (rounds_of word)
limit_is word = limit_front word (bytes_eq (take 7 word) (codes "rounds=")) refl

-- ---- where words go wrong

wrong_at : (front : List (List ℕ)) (w : List ℕ) (ws : List (List ℕ)) (i : ℕ) → i ≡ length front →
    GoesOn front → ((command : Command) (rest : List (List ℕ)) → MayBeAsked command → front ++ w ∷ rest ≢ words_for command) →
    GoesWrong (front ++ w ∷ ws) i
wrong_at front w ws i at on off = record {
  no_form = λ command may. off command ws may;
  within = omega (arith, at, length_behind front (w ∷ ws));
  before = subst GoesOn (sym (ap (λ (k : ℕ). take k (front ++ w ∷ ws)) at ∙ front_taken front (w ∷ ws))) on;
  here = λ inside on'.
      let next : i + 1 ≡ suc (length front) = omega (arith, at) in
      let more : GoesOn (front ++ w ∷ []) = subst GoesOn (ap (λ (k : ℕ). take k (front ++ w ∷ ws)) next ∙ one_more front w ws) on' in
      off more.command more.rest more.may (sym (append_assoc front (w ∷ []) more.rest) ∙ more.is);
}
  where
    length_behind : (xs ys : List (List ℕ)) → length xs ≤ length (xs ++ ys)
    length_behind [] ys = omega arith
    length_behind (x ∷ xs) ys = omega (arith, length_behind xs ys)

    front_taken : (xs ys : List (List ℕ)) → take (length xs) (xs ++ ys) ≡ xs
    front_taken [] ys = refl
    front_taken (x ∷ xs) ys = ap (λ (zs : List (List ℕ)). x ∷ zs) (front_taken xs ys)

    one_more : (xs : List (List ℕ)) (y : List ℕ) (ys : List (List ℕ)) → take (suc (length xs)) (xs ++ y ∷ ys) ≡ xs ++ y ∷ []
    one_more [] y ys = refl
    one_more (x ∷ xs) y ys = ap (λ (zs : List (List ℕ)). x ∷ zs) (one_more xs y ys)

goes_on : (command : Command) → MayBeAsked command → (front rest : List (List ℕ)) → front ++ rest ≡ words_for command → GoesOn front
goes_on command may front rest is = record { command = command; may = may; rest = rest; is = is }

-- ---- after `verify`

-- the words at the front, and the first byte of a word
abbrev word_0 : List (List ℕ) → List ℕ
word_0 [] = []
word_0 (w ∷ ws) = w

abbrev word_1 : List (List ℕ) → List ℕ
word_1 [] = []
word_1 (w ∷ ws) = word_0 ws

abbrev word_2 : List (List ℕ) → List ℕ
word_2 [] = []
word_2 (w ∷ ws) = word_1 ws

abbrev byte_0 : List ℕ → ℕ
byte_0 [] = 0
byte_0 (b ∷ bs) = b

-- no form has more words than three
three_at_most : (command : Command) → length (words_for command) ≤ 3
three_at_most (Verify Full None) = omega arith
three_at_most (Verify Full (Some n)) = omega arith
three_at_most (Verify Waves None) = omega arith
three_at_most (Verify Waves (Some n)) = omega arith
three_at_most (Verify Faults None) = omega arith
three_at_most (Verify Faults (Some n)) = omega arith
three_at_most Format = omega arith
three_at_most Upgrade = omega arith
three_at_most (Bench n) = omega arith

-- no word goes on after a whole form of `verify` with a limit
past_limit : (mode : Mode) (n : ℕ) (x : List ℕ) (command : Command) (rest : List (List ℕ)) → codes "verify" ∷ (mode_words mode ++ (codes "rounds=" ++ decimal n) ∷ x ∷ rest) ≢ words_for command
past_limit Full n x (Verify Full None) rest e = absurd (omega (arith, ap length e))
past_limit Full n x (Verify Full (Some m)) rest e = absurd (omega (arith, ap length e))
past_limit Full n x (Verify Waves None) rest e = absurd (omega (arith, ap length e))
past_limit Full n x (Verify Waves (Some m)) rest e = let byte : 114 ≡ 119 = ap (λ (ws : List (List ℕ)). byte_0 (word_1 ws)) e in absurd (omega (arith, byte))
past_limit Full n x (Verify Faults None) rest e = absurd (omega (arith, ap length e))
past_limit Full n x (Verify Faults (Some m)) rest e = let byte : 114 ≡ 102 = ap (λ (ws : List (List ℕ)). byte_0 (word_1 ws)) e in absurd (omega (arith, byte))
past_limit Full n x Format rest e = absurd (omega (arith, ap length e))
past_limit Full n x Upgrade rest e = absurd (omega (arith, ap length e))
past_limit Full n x (Bench m) rest e = absurd (omega (arith, ap length e))
past_limit Waves n x command rest e = absurd (omega (arith, ap length e, three_at_most command))
past_limit Faults n x command rest e = absurd (omega (arith, ap length e, three_at_most command))

-- the word is none of a mode if none was named yet
abbrev IsNoMode : Mode → List ℕ → Type 0
IsNoMode Full w = (w ≢ codes "waves") × (w ≢ codes "faults")
IsNoMode mode w = Unit {0}

-- no other word goes on after the mode than that with the limit
past_mode : (mode : Mode) (w : List ℕ) → IsNoMode mode w → IsLimit w None → (command : Command) (rest : List (List ℕ)) →
    MayBeAsked command → codes "verify" ∷ (mode_words mode ++ w ∷ rest) ≢ words_for command
past_mode Full w other none (Verify Full None) rest may e = absurd (omega (arith, ap length e))
past_mode Full w other none (Verify Full (Some m)) rest may e = none m may (ap word_1 e)
past_mode Full w other none (Verify Waves rounds) rest may e = other.0 (ap word_1 e)
past_mode Full w other none (Verify Faults rounds) rest may e = other.1 (ap word_1 e)
past_mode Full w other none Format rest may e = absurd (omega (arith, ap length e))
past_mode Full w other none Upgrade rest may e = absurd (omega (arith, ap length e))
past_mode Full w other none (Bench m) rest may e = let byte : 118 ≡ 98 = ap (λ (ws : List (List ℕ)). byte_0 (word_0 ws)) e in absurd (omega (arith, byte))
past_mode Waves w other none (Verify Full None) rest may e = absurd (omega (arith, ap length e))
past_mode Waves w other none (Verify Full (Some m)) rest may e = absurd (omega (arith, ap length e))
past_mode Waves w other none (Verify Waves None) rest may e = absurd (omega (arith, ap length e))
past_mode Waves w other none (Verify Waves (Some m)) rest may e = none m may (ap word_2 e)
past_mode Waves w other none (Verify Faults rounds) rest may e = let byte : 119 ≡ 102 = ap (λ (ws : List (List ℕ)). byte_0 (word_1 ws)) e in absurd (omega (arith, byte))
past_mode Waves w other none Format rest may e = absurd (omega (arith, ap length e))
past_mode Waves w other none Upgrade rest may e = absurd (omega (arith, ap length e))
past_mode Waves w other none (Bench m) rest may e = absurd (omega (arith, ap length e))
past_mode Faults w other none (Verify Full None) rest may e = absurd (omega (arith, ap length e))
past_mode Faults w other none (Verify Full (Some m)) rest may e = absurd (omega (arith, ap length e))
past_mode Faults w other none (Verify Waves rounds) rest may e = let byte : 102 ≡ 119 = ap (λ (ws : List (List ℕ)). byte_0 (word_1 ws)) e in absurd (omega (arith, byte))
past_mode Faults w other none (Verify Faults None) rest may e = absurd (omega (arith, ap length e))
past_mode Faults w other none (Verify Faults (Some m)) rest may e = none m may (ap word_2 e)
past_mode Faults w other none Format rest may e = absurd (omega (arith, ap length e))
past_mode Faults w other none Upgrade rest may e = absurd (omega (arith, ap length e))
past_mode Faults w other none (Bench m) rest may e = absurd (omega (arith, ap length e))

-- how many words there are up to the mode
abbrev up_to_mode : Mode → ℕ
up_to_mode Full = 1
up_to_mode mode = 2

mode_is : (mode : Mode) → up_to_mode mode ≡ length (codes "verify" ∷ mode_words mode)
mode_is Full = refl
mode_is Waves = refl
mode_is Faults = refl

up_to_limit : (mode : Mode) (w : List ℕ) → up_to_mode mode + 1 ≡ length (codes "verify" ∷ (mode_words mode ++ w ∷ []))
up_to_limit Full w = refl
up_to_limit Waves w = refl
up_to_limit Faults w = refl

abbrev IsHead : Mode → List (List ℕ) → Type 0
IsHead mode [] = Unit {0}
IsHead mode (w ∷ ws) = IsNoMode mode w

mode_read : (mode : Mode) (ws : List (List ℕ)) → IsHead mode ws → AreReadAs (codes "verify" ∷ (mode_words mode ++ ws)) (behind_mode mode (up_to_mode mode) ws)
mode_read mode [] head = (tt, refl)
mode_read mode (w ∷ ws) head = limit_read (rounds_of w) ws (limit_is w)
  where
    last_read : (n : ℕ) (xs : List (List ℕ)) → w ≡ codes "rounds=" ++ decimal n → IsFrom most_rounds n →
        AreReadAs (codes "verify" ∷ (mode_words mode ++ w ∷ xs)) (alone (Verify mode (Some n)) (up_to_mode mode + 1) xs)
    last_read n [] is from = (from, ap (λ (z : List ℕ). codes "verify" ∷ (mode_words mode ++ z ∷ [])) is)
    last_read n (x ∷ xs) is from =
        subst (λ (words : List (List ℕ)). GoesWrong words (up_to_mode mode + 1)) (append_assoc (codes "verify" ∷ mode_words mode) (w ∷ []) (x ∷ xs))
        (wrong_at (codes "verify" ∷ (mode_words mode ++ w ∷ [])) x xs (up_to_mode mode + 1) (up_to_limit mode w)
        (goes_on (Verify mode (Some n)) from (codes "verify" ∷ (mode_words mode ++ w ∷ []))
        [] (append-nil (codes "verify" ∷ (mode_words mode ++ w ∷ [])) ∙ ap (λ (z : List ℕ). codes "verify" ∷ (mode_words mode ++ z ∷ [])) is))
        (λ command rest may e. past_limit mode n x command rest
        (ap (λ (z : List ℕ). codes "verify" ∷ (mode_words mode ++ z ∷ x ∷ rest)) (sym is) ∙ sym (append_assoc (codes "verify" ∷ mode_words mode) (w ∷ []) (x ∷ rest)) ∙ e)))

    limit_read : (found : Option ℕ) (xs : List (List ℕ)) → IsLimit w found → AreReadAs (codes "verify" ∷ (mode_words mode ++ w ∷ xs)) (with_limit mode (up_to_mode mode) found xs)
    limit_read (Some n) xs is = last_read n xs is.0 is.1
    limit_read None xs none =
        wrong_at (codes "verify" ∷ mode_words mode) w xs (up_to_mode mode) (mode_is mode)
        (goes_on (Verify mode None) tt (codes "verify" ∷ mode_words mode) [] refl)
        (λ command rest may e. past_mode mode w head none command rest may e)

verify_read : (ws : List (List ℕ)) → AreReadAs (codes "verify" ∷ ws) (behind_verify ws)
verify_read [] = (tt, refl)
verify_read (w ∷ ws) = by_waves (bytes_eq w (codes "waves")) refl
  where
    by_faults : (t : Bool) → bytes_eq w (codes "faults") ≡ t → w ≢ codes "waves" → AreReadAs (codes "verify" ∷ w ∷ ws) (from_mode (cond t (Some Faults) None) w ws)
    by_faults true e other =
        subst (λ (z : List ℕ). AreReadAs (codes "verify" ∷ z ∷ ws) (behind_mode Faults 2 ws)) (sym (same_bytes w (codes "faults") e)) (mode_read Faults ws (any_head ws))
      where
        any_head : (xs : List (List ℕ)) → IsHead Faults xs
        any_head [] = tt
        any_head (x ∷ xs) = tt
    by_faults false e other = mode_read Full (w ∷ ws) (other, other_bytes w (codes "faults") e)

    by_waves : (t : Bool) → bytes_eq w (codes "waves") ≡ t → AreReadAs (codes "verify" ∷ w ∷ ws) (from_mode (cond t (Some Waves) (cond (bytes_eq w (codes "faults")) (Some Faults) None)) w ws)
    by_waves true e =
        subst (λ (z : List ℕ). AreReadAs (codes "verify" ∷ z ∷ ws) (behind_mode Waves 2 ws)) (sym (same_bytes w (codes "waves") e)) (mode_read Waves ws (any_head ws))
      where
        any_head : (xs : List (List ℕ)) → IsHead Waves xs
        any_head [] = tt
        any_head (x ∷ xs) = tt
    by_waves false e = by_faults (bytes_eq w (codes "faults")) refl (other_bytes w (codes "waves") e)

-- ---- after `format`, `upgrade` and `bench`

past_format : (w : List ℕ) (command : Command) (rest : List (List ℕ)) → codes "format" ∷ w ∷ rest ≢ words_for command
past_format w (Verify mode rounds) rest e = let byte : 102 ≡ 118 = ap (λ (ws : List (List ℕ)). byte_0 (word_0 ws)) e in absurd (omega (arith, byte))
past_format w Format rest e = absurd (omega (arith, ap length e))
past_format w Upgrade rest e = absurd (omega (arith, ap length e))
past_format w (Bench n) rest e = let byte : 102 ≡ 98 = ap (λ (ws : List (List ℕ)). byte_0 (word_0 ws)) e in absurd (omega (arith, byte))

format_read : (ws : List (List ℕ)) → AreReadAs (codes "format" ∷ ws) (alone Format 1 ws)
format_read [] = (tt, refl)
format_read (w ∷ ws) = wrong_at (codes "format" ∷ []) w ws 1 refl (goes_on Format tt (codes "format" ∷ []) [] refl) (λ command rest may e. past_format w command rest e)

past_upgrade : (w : List ℕ) (command : Command) (rest : List (List ℕ)) → codes "upgrade" ∷ w ∷ rest ≢ words_for command
past_upgrade w (Verify mode rounds) rest e = let byte : 117 ≡ 118 = ap (λ (ws : List (List ℕ)). byte_0 (word_0 ws)) e in absurd (omega (arith, byte))
past_upgrade w Format rest e = absurd (omega (arith, ap length e))
past_upgrade w Upgrade rest e = absurd (omega (arith, ap length e))
past_upgrade w (Bench n) rest e = let byte : 117 ≡ 98 = ap (λ (ws : List (List ℕ)). byte_0 (word_0 ws)) e in absurd (omega (arith, byte))

upgrade_read : (ws : List (List ℕ)) → AreReadAs (codes "upgrade" ∷ ws) (alone Upgrade 1 ws)
upgrade_read [] = (tt, refl)
upgrade_read (w ∷ ws) = wrong_at (codes "upgrade" ∷ []) w ws 1 refl (goes_on Upgrade tt (codes "upgrade" ∷ []) [] refl) (λ command rest may e. past_upgrade w command rest e)

-- a number is missing
bench_alone : (command : Command) → codes "bench" ∷ [] ≢ words_for command
bench_alone (Verify mode rounds) e = let byte : 98 ≡ 118 = ap (λ (ws : List (List ℕ)). byte_0 (word_0 ws)) e in absurd (omega (arith, byte))
bench_alone Format e = let byte : 98 ≡ 102 = ap (λ (ws : List (List ℕ)). byte_0 (word_0 ws)) e in absurd (omega (arith, byte))
bench_alone Upgrade e = let byte : 98 ≡ 117 = ap (λ (ws : List (List ℕ)). byte_0 (word_0 ws)) e in absurd (omega (arith, byte))
bench_alone (Bench n) e = absurd (omega (arith, ap length e))

past_bench : (w : List ℕ) → IsNumber most_sections w None → (command : Command) (rest : List (List ℕ)) → MayBeAsked command → codes "bench" ∷ w ∷ rest ≢ words_for command
past_bench w none (Verify mode rounds) rest may e = let byte : 98 ≡ 118 = ap (λ (ws : List (List ℕ)). byte_0 (word_0 ws)) e in absurd (omega (arith, byte))
past_bench w none Format rest may e = absurd (omega (arith, ap length e))
past_bench w none Upgrade rest may e = absurd (omega (arith, ap length e))
past_bench w none (Bench n) rest may e = none n may (ap word_1 e)

past_number : (w x : List ℕ) (command : Command) (rest : List (List ℕ)) → codes "bench" ∷ w ∷ x ∷ rest ≢ words_for command
past_number w x (Verify mode rounds) rest e = let byte : 98 ≡ 118 = ap (λ (ws : List (List ℕ)). byte_0 (word_0 ws)) e in absurd (omega (arith, byte))
past_number w x Format rest e = absurd (omega (arith, ap length e))
past_number w x Upgrade rest e = absurd (omega (arith, ap length e))
past_number w x (Bench n) rest e = absurd (omega (arith, ap length e))

-- a form of `bench` may be gone on with
bench_goes : GoesOn (codes "bench" ∷ [])
bench_goes = goes_on (Bench 1) (omega arith, omega arith) (codes "bench" ∷ []) (decimal 1 ∷ []) refl

bench_read : (ws : List (List ℕ)) → AreReadAs (codes "bench" ∷ ws) (behind_bench ws)
bench_read [] = record {
  no_form = λ command may. bench_alone command;
  within = omega arith;
  before = bench_goes;
  here = λ inside. absurd (omega (arith, inside));
}
bench_read (w ∷ ws) = number_read (number_in most_sections w) ws (number_is most_sections w (omega arith))
  where
    number_read : (found : Option ℕ) (xs : List (List ℕ)) → IsNumber most_sections w found → AreReadAs (codes "bench" ∷ w ∷ xs) (with_sections found xs)
    number_read (Some n) [] is = (is.1, ap (λ (z : List ℕ). codes "bench" ∷ z ∷ []) is.0)
    number_read (Some n) (x ∷ xs) is =
        wrong_at (codes "bench" ∷ w ∷ []) x xs 2 refl
        (goes_on (Bench n) is.1 (codes "bench" ∷ w ∷ []) [] (ap (λ (z : List ℕ). codes "bench" ∷ z ∷ []) is.0))
        (λ command rest may e. past_number w x command rest e)
    number_read None xs none = wrong_at (codes "bench" ∷ []) w xs 1 refl bench_goes (λ command rest may e. past_bench w none command rest may e)

-- ---- the first word

past_none : (w : List ℕ) → w ≢ codes "verify" → w ≢ codes "format" → w ≢ codes "upgrade" → w ≢ codes "bench" → (command : Command) (rest : List (List ℕ)) → w ∷ rest ≢ words_for command
past_none w v f u b (Verify mode rounds) rest e = v (ap word_0 e)
past_none w v f u b Format rest e = f (ap word_0 e)
past_none w v f u b Upgrade rest e = u (ap word_0 e)
past_none w v f u b (Bench n) rest e = b (ap word_0 e)

none_at_all : (command : Command) → [] ≢ words_for command
none_at_all (Verify mode rounds) e = absurd (omega (arith, ap length e))
none_at_all Format e = absurd (omega (arith, ap length e))
none_at_all Upgrade e = absurd (omega (arith, ap length e))
none_at_all (Bench n) e = absurd (omega (arith, ap length e))

pub words_are_read : WordsAreRead
words_are_read [] = record {
  no_form = λ command may. none_at_all command;
  within = omega arith;
  before = goes_on Format tt [] (codes "format" ∷ []) refl;
  here = λ inside. absurd (omega (arith, inside));
}
words_are_read (w ∷ ws) = by_verify (bytes_eq w (codes "verify")) refl
  where
    by_bench : (t : Bool) → bytes_eq w (codes "bench") ≡ t → w ≢ codes "verify" → w ≢ codes "format" → w ≢ codes "upgrade" → AreReadAs (w ∷ ws) (cond t (behind_bench ws) (Err 0))
    by_bench true e v f u = subst (λ (z : List ℕ). AreReadAs (z ∷ ws) (behind_bench ws)) (sym (same_bytes w (codes "bench") e)) (bench_read ws)
    by_bench false e v f u = wrong_at [] w ws 0 refl (goes_on Format tt [] (codes "format" ∷ []) refl) (λ command rest may. past_none w v f u (other_bytes w (codes "bench") e) command rest)

    by_upgrade : (t : Bool) → bytes_eq w (codes "upgrade") ≡ t → w ≢ codes "verify" → w ≢ codes "format" →
        AreReadAs (w ∷ ws) (cond t (alone Upgrade 1 ws) (cond (bytes_eq w (codes "bench")) (behind_bench ws) (Err 0)))
    by_upgrade true e v f = subst (λ (z : List ℕ). AreReadAs (z ∷ ws) (alone Upgrade 1 ws)) (sym (same_bytes w (codes "upgrade") e)) (upgrade_read ws)
    by_upgrade false e v f = by_bench (bytes_eq w (codes "bench")) refl v f (other_bytes w (codes "upgrade") e)

    by_format : (t : Bool) → bytes_eq w (codes "format") ≡ t → w ≢ codes "verify" →
        AreReadAs (w ∷ ws) (cond t (alone Format 1 ws) (cond (bytes_eq w (codes "upgrade")) (alone Upgrade 1 ws) (cond (bytes_eq w (codes "bench")) (behind_bench ws) (Err 0))))
    by_format true e v = subst (λ (z : List ℕ). AreReadAs (z ∷ ws) (alone Format 1 ws)) (sym (same_bytes w (codes "format") e)) (format_read ws)
    by_format false e v = by_upgrade (bytes_eq w (codes "upgrade")) refl v (other_bytes w (codes "format") e)

    by_verify : (t : Bool) → bytes_eq w (codes "verify") ≡ t →
        AreReadAs (w ∷ ws) (cond t (behind_verify ws) (cond (bytes_eq w (codes "format")) (alone Format 1 ws)
        (cond (bytes_eq w (codes "upgrade")) (alone Upgrade 1 ws) (cond (bytes_eq w (codes "bench")) (behind_bench ws) (Err 0)))))
    by_verify true e = subst (λ (z : List ℕ). AreReadAs (z ∷ ws) (behind_verify ws)) (sym (same_bytes w (codes "verify") e)) (verify_read ws)
    by_verify false e = by_format (bytes_eq w (codes "format")) refl (other_bytes w (codes "verify") e)

-- ---- the words of what may be asked for

limit_is_number : (n : ℕ) → IsFrom most_rounds n → rounds_of (codes "rounds=" ++ decimal n) ≡ Some n
limit_is_number n from = number_of most_rounds n (omega arith) from

pub words_are_known : WordsAreKnown
words_are_known (Verify Full None) may = refl
words_are_known (Verify Waves None) may = refl
words_are_known (Verify Faults None) may = refl
words_are_known (Verify Full (Some n)) may = ap (λ (found : Option ℕ). with_limit Full 1 found []) (limit_is_number n may)
words_are_known (Verify Waves (Some n)) may = ap (λ (found : Option ℕ). with_limit Waves 2 found []) (limit_is_number n may)
words_are_known (Verify Faults (Some n)) may = ap (λ (found : Option ℕ). with_limit Faults 2 found []) (limit_is_number n may)
words_are_known Format may = refl
words_are_known Upgrade may = refl
words_are_known (Bench n) may = ap (λ (found : Option ℕ). with_sections found []) (number_of most_sections n (omega arith) may)
