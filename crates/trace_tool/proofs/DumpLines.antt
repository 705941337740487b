-- The bytes of commands, read line by line.
use Rattle.std.proofs.Common.{◌≡◌, ℕ, zero, suc, ◌+◌, ◌-◌, ◌/◌, ◌%◌, ◌^◌, ◌<◌, ◌≤◌, ◌==◌, ◌&&◌, not, Bool, true, false, List, [], ◌∷◌, ◌++◌, map, codes, decimal, append_assoc, refl, arith, ap, sym, ◌∙◌}
use Rattle.std.specs.Prelude.{if◌then◌else◌, nat_lt, ⊤}
use Rattle.std.specs.List.{flat_map, list_any}
use Rattle.std.proofs.lemmas.Bool.{and_from, and_parts, ne_eqb, not-true, not_from_false}
use Rattle.std.proofs.lemmas.Fmt.{decimal_by_steps, decimal_is_IsNumeral}
use Rattle.flat_circuit.specs.Circuit.{Circuit}
use Rattle.trace_tool.specs.declared.stretch.Stretch.{Stretch}
use Rattle.trace_tool.specs.Stretch.{stretches}
use Rattle.trace_tool.specs.Variable.{code_digit, code_of, later_code}
use Rattle.trace_tool.specs.Change.{Command, End, Start, Time, Value, command_text, digit_text, later_commands, levels, steps, tick_commands, value_if, value_of, value_text, vector_text}
use Rattle.trace_tool.specs.Dump.{changes, start_commands, texts}
use Rattle.trace_tool.specs.DumpReading.{CommandsComeBack, after_space, bits_before, command_in, commands_in, in_first, lines_of}

-- ---- lines

-- no byte of it ends a line
abbrev is_inner : List ℕ → Bool
is_inner [] = true
is_inner (b ∷ bs) = not (b == 10) && is_inner bs

inner_both : (a b : List ℕ) → is_inner a ≡ true → is_inner b ≡ true → is_inner (a ++ b) ≡ true
inner_both [] b first second = second
inner_both (x ∷ a) b first second =
    let parts = and_parts (not (x == 10)) (is_inner a) first in
    and_from (not (x == 10)) (is_inner (a ++ b)) parts.0 (inner_both a b parts.1 second)

first_line : (line rest : List ℕ) → is_inner line ≡ true → lines_of (line ++ (10 ∷ rest)) ≡ line ∷ lines_of rest
first_line [] rest inner = refl
first_line (b ∷ bs) rest inner =
    let parts = and_parts (not (b == 10)) (is_inner bs) inner in
    ap (λ (ends : Bool). if ends then [] ∷ lines_of (bs ++ (10 ∷ rest)) else in_first b (lines_of (bs ++ (10 ∷ rest)))) (not-true (b == 10) parts.0)
    ∙ ap (in_first b) (first_line bs rest parts.1)

-- ---- what ends no line

inner_byte : (b : ℕ) → 10 < b → is_inner (b ∷ []) ≡ true
inner_byte b more = and_from (not (b == 10)) true (not_from_false (b == 10) (ne_eqb b 10 (λ e. omega (arith, more, e)))) refl

inner_digit : (n : ℕ) → is_inner (code_digit n ∷ []) ≡ true
inner_digit n = inner_byte (33 + n % 94) (omega arith)

inner_later : (n : ℕ) → is_inner (later_code n) ≡ true
inner_later n = by (nat_lt n 94)
  where
    by : (few : Bool) → is_inner (if few then code_digit n ∷ [] else code_digit n ∷ code_digit (n / 94 - 1) ∷ []) ≡ true
    by true = inner_digit n
    by false = inner_both (code_digit n ∷ []) (code_digit (n / 94 - 1) ∷ []) (inner_digit n) (inner_digit (n / 94 - 1))

inner_code : (n : ℕ) → is_inner (code_of n) ≡ true
unfolding code_of
inner_code n = by (nat_lt n 94)
  where
    by : (few : Bool) → is_inner (if few then code_digit n ∷ [] else code_digit n ∷ later_code (n / 94 - 1)) ≡ true
    by true = inner_digit n
    by false = inner_both (code_digit n ∷ []) (later_code (n / 94 - 1)) (inner_digit n) (inner_later (n / 94 - 1))

inner_number : (n : ℕ) → n < 2 ^ 64 → is_inner (decimal n) ≡ true
inner_number n small =
    decimal_by_steps (λ (m : ℕ) (digits : List ℕ). is_inner digits ≡ true)
    (λ m few. inner_byte (48 + m) (omega arith))
    (λ m digits many before. inner_both digits ((48 + m % 10) ∷ []) before (inner_byte (48 + m % 10) (omega arith)))
    n small

inner_bits : (bits : List Bool) → is_inner (flat_map digit_text bits) ≡ true
inner_bits [] = refl
inner_bits (true ∷ bits) = inner_bits bits
inner_bits (false ∷ bits) = inner_bits bits

-- ---- the line of a vector

bits_back : (bits : List Bool) (code : List ℕ) → bits_before (flat_map digit_text bits ++ (32 ∷ code)) ≡ bits
bits_back [] code = refl
bits_back (true ∷ bits) code = ap (λ (l : List Bool). true ∷ l) (bits_back bits code)
bits_back (false ∷ bits) code = ap (λ (l : List Bool). false ∷ l) (bits_back bits code)

code_back : (bits : List Bool) (code : List ℕ) → after_space (flat_map digit_text bits ++ (32 ∷ code)) ≡ code
code_back [] code = refl
code_back (true ∷ bits) code = code_back bits code
code_back (false ∷ bits) code = code_back bits code

-- ---- the line of a command

record IsLine (command : Command) : Type 0 where
  line : List ℕ
  is : command_text command ≡ line ++ (10 ∷ [])
  inner : is_inner line ≡ true
  says : command_in line ≡ command

time_line : (t : ℕ) → t < 2 ^ 64 → IsLine (Time t)
time_line t small = record {
  line = 35 ∷ decimal t;
  is = refl;
  inner = inner_number t small;
  says = ap (λ (n : ℕ). Time n) (decimal_is_IsNumeral t small).1;
}

start_line : IsLine Start
start_line = record { line = codes "$dumpvars"; is = refl; inner = refl; says = refl }

end_line : IsLine End
end_line = record { line = codes "$end"; is = refl; inner = refl; says = refl }

vector_line : (code : List ℕ) (bits : List Bool) → is_inner code ≡ true → value_text code bits ≡ vector_text code bits → IsLine (Value code bits)
vector_line code bits inner vector = record {
  line = 98 ∷ (flat_map digit_text bits ++ (32 ∷ code));
  is = vector ∙ ap (λ (l : List ℕ). 98 ∷ l) (sym (append_assoc (flat_map digit_text bits) (32 ∷ code) (10 ∷ [])));
  inner = inner_both (flat_map digit_text bits) (32 ∷ code) (inner_bits bits) inner;
  says = ap (λ (l : List Bool). Value (after_space (flat_map digit_text bits ++ (32 ∷ code))) l) (bits_back bits code)
      ∙ ap (λ (k : List ℕ). Value k bits) (code_back bits code);
}

value_line : (code : List ℕ) (bits : List Bool) → is_inner code ≡ true → IsLine (Value code bits)
value_line code [] inner = vector_line code [] inner refl
value_line code (true ∷ []) inner = record { line = 49 ∷ code; is = refl; inner = inner; says = refl }
value_line code (false ∷ []) inner = record { line = 48 ∷ code; is = refl; inner = inner; says = refl }
value_line code (a ∷ b ∷ bits) inner = vector_line code (a ∷ b ∷ bits) inner refl

-- ---- all lines

abbrev AreLines : List Command → Type 0
AreLines [] = ⊤
AreLines (c ∷ cs) = IsLine c × AreLines cs

lines_both : (a b : List Command) → AreLines a → AreLines b → AreLines (a ++ b)
lines_both [] b first second = second
lines_both (c ∷ a) b first second = (first.0, lines_both a b first.1 second)

commands_back : (cs : List Command) → AreLines cs → commands_in (texts cs) ≡ cs
commands_back [] all = refl
commands_back (c ∷ cs) all =
    let l : IsLine c = all.0 in
    ap (λ (t : List ℕ). commands_in (t ++ texts cs)) l.is
    ∙ ap commands_in (append_assoc l.line (10 ∷ []) (texts cs))
    ∙ ap (map command_in) (first_line l.line (texts cs) l.inner)
    ∙ ap (λ (k : Command). k ∷ commands_in (texts cs)) l.says
    ∙ ap (λ (ks : List Command). c ∷ ks) (commands_back cs all.1)

-- ---- of a run

module _ (c : Circuit) (rows : List (List Bool)) where
  value_is : (t : ℕ) (s : Stretch) → IsLine (value_of c rows t s)
  value_is t s = value_line (code_of s.number) (levels c rows t s.from (s.to - s.from)) (inner_code s.number)

  values_are : (t : ℕ) (ss : List Stretch) → AreLines (map (value_of c rows t) ss)
  values_are t [] = tt
  values_are t (s ∷ ss) = (value_is t s, values_are t ss)

  changed_are : (t : ℕ) (ss : List Stretch) → AreLines (flat_map (value_if c rows t) ss)
  changed_are t [] = tt
  changed_are t (s ∷ ss) = lines_both (value_if c rows t s) (flat_map (value_if c rows t) ss) (by (steps c rows t s)) (changed_are t ss)
    where
      by : (stepping : Bool) → AreLines (if stepping then value_of c rows t s ∷ [] else [])
      by true = (value_is t s, tt)
      by false = tt

  tick_are : (ss : List Stretch) (t : ℕ) → t < 2 ^ 64 → AreLines (tick_commands c rows ss t)
  tick_are ss t small = by (list_any (steps c rows t) ss)
    where
      by : (any : Bool) → AreLines (if any then Time t ∷ flat_map (value_if c rows t) ss else [])
      by true = (time_line t small, changed_are t ss)
      by false = tt

  later_are : (ss : List Stretch) (n t : ℕ) → t + n ≤ 2 ^ 64 → AreLines (later_commands c rows ss t n)
  later_are ss zero t within = tt
  later_are ss (suc n) t within =
      lines_both (tick_commands c rows ss t) (later_commands c rows ss (t + 1) n)
      (tick_are ss t (omega (arith, within))) (later_are ss n (t + 1) (omega (arith, within)))

  changes_are : (ticks : ℕ) → ticks < 2 ^ 64 → AreLines (changes c rows ticks)
  unfolding changes start_commands
  changes_are ticks small =
      lines_both (Time 0 ∷ Start ∷ (map (value_of c rows 0) (stretches c) ++ End ∷ []))
      (later_commands c rows (stretches c) 1 (ticks - 1) ++ Time ticks ∷ [])
      (time_line 0 (omega arith), (start_line, lines_both (map (value_of c rows 0) (stretches c)) (End ∷ []) (values_are 0 (stretches c)) (end_line, tt)))
      (lines_both (later_commands c rows (stretches c) 1 (ticks - 1)) (Time ticks ∷ [])
      (later_are (stretches c) (ticks - 1) 1 (omega (arith, small))) (time_line ticks small, tt))

pub commands_come_back : CommandsComeBack
commands_come_back c rows ticks small = commands_back (changes c rows ticks) (changes_are c rows ticks small)
