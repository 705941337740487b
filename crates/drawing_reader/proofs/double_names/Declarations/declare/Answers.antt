use Rattle.std.proofs.Common.{List, [], ◌∷◌, ◌++◌, map, subst}
use Rattle.drawing_grammar.specs.DoubleNames.{Key, declaration, primitives, Declares, IsStopAt}
use Rattle.drawing_reader.specs.Keys.{key_of}
use Rattle.drawing_reader.proofs.Keys.{taken_again, taken_before, taken_new}
use Rattle.drawing_reader.proofs.double_names.Declarations.declare.Goals as goal

pub returns-then-is_taken : goal.returns-then-is_taken
returns-then-is_taken c =
    let d = declaration c.args.scope c.args.kind c.args.name.now c.args.place in
    let F : List Key → Type 0 = λ keys. IsStopAt keys (d ∷ []) c.refused.result in
    subst F c.self.view_is (rw c.refused.ensures (taken_before primitives (map key_of c.self.inside.seen.keys) d (c.is_taken.ensures.0 c.if-is_taken.true)))

pub returns-then-not-is_new : goal.returns-then-not-is_new
returns-then-not-is_new c =
    let d = declaration c.args.scope c.args.kind c.args.name.now c.args.place in
    let F : List Key → Type 0 = λ keys. IsStopAt keys (d ∷ []) c.refused-then-not-is_new.result in
    subst F c.self.view_is (rw c.refused-then-not-is_new.ensures (taken_again primitives c.self.inside.seen.keys (record {
      scope =
          c.args.scope;
      kind = c.args.kind;
      name = c.args.name;
    }) c.args.place c.in-Ok.is_new c.in-Ok.ensures.added c.if-not-is_new.true))

pub returns : goal.returns
returns c =
    let d = declaration c.args.scope c.args.kind c.args.name.now c.args.place in
    let F : List Key → Type 0 = λ keys. Declares keys (primitives ++ map key_of c.insert_full.new.self.keys) (d ∷ []) in
    subst F c.self.view_is (taken_new primitives c.self.inside.seen.keys c.insert_full.new.self.keys
    (record { scope = c.args.scope; kind = c.args.kind; name = c.args.name }) c.args.place c.in-Ok.is_new (λ found. let h =
    c.is_taken.ensures.1 found in let t = c.if-is_taken.false in cc) c.in-Ok.ensures.added c.if-not-is_new.false c.in-Ok.ensures.keys)
