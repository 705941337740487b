use Rattle.std.proofs.Common.{◌≡◌, ◌++◌, map}
use Rattle.std.specs.Prelude.{string_bytes}
use Rattle.std.specs.Vec.Iter.{into_iter_items}
use Rattle.scald_base.proofs.words.words_of.Given as goal

-- the words so far, and what is still to come
abbrev pub invariant-loop-argument : goal.invariant-loop-argument
invariant-loop-argument l =
    l.words ++ map string_bytes (into_iter_items l.argument-iterator) ≡ map string_bytes (into_iter_items l.initial.argument-iterator)
