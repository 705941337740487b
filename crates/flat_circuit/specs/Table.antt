-- What a table says of the values that a case gives, in a byte for each net.
use Rattle.std.specs.Prelude.{ℕ, zero, suc, Bool, true, false, Option, Some, None}

-- 0 if the case gives the net no value, 1 for the bit 0 and 2 for the bit 1
abbrev pub said : ℕ → Option Bool
said zero = None
said (suc zero) = Some false
said (suc (suc byte)) = Some true
