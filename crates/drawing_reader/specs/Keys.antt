-- The key that a declaration in a set stands for.
use Rattle.drawing_reader.specs.declared.declared.Declared.{Declared}
use Rattle.drawing_grammar.specs.DoubleNames.{Key, key}

abbrev pub key_of : Declared → Key
key_of d = key d.scope d.kind d.name.now
