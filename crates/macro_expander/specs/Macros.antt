-- The uses of macros: parameters, formals, and the scope of a macro's body.
use Rattle.std.specs.Prelude.{ℕ, ℤ, Bool, not, ◌&&◌, List, [], ◌∷◌, ◌++◌, length, ◌==◌, if◌then◌else◌, replicate, Option, Some, None, is_some, Ok, codes}
use Rattle.std.specs.List.{find, list_any, zip}
use Rattle.std.specs.Option.{option_map}
use Rattle.std.specs.Str.{bytes_eq}
use Rattle.scald_base.specs.declared.refusal.RefusalKind.TheVariants.{BadParameter, Bounds, PinCount, Width}
use Rattle.drawing_tree.specs.declared.environment.Binding.{Binding}
use Rattle.drawing_tree.specs.Tree.{Assignment, Formal, Macro, UseStatement}
use Rattle.macro_expander.specs.declared.formal.Shape.{Shape}
use Rattle.macro_expander.specs.declared.formal.Inside.{Inside}
use Rattle.macro_expander.specs.Named.{Bit, State}
use Rattle.macro_expander.specs.Outcome.{Outcome, Gives, after, Judged, judging, judged, or_refuse, collected}
use Rattle.macro_expander.specs.Terms.{Bound, Scope, labelled, Joined, wires_of, valued, written_ends, numbers_of}
use Rattle.macro_expander.specs.Primitives.{assigns, are_of, demanded, values_given, is_named, marks}

-- the macro of a name
abbrev pub macro_of : List ℕ → List Macro → Option Macro
macro_of name macros = find (λ m. bytes_eq m.name name) macros

-- a connection for each formal, and no marks
abbrev pub fits_formals : Macro → UseStatement → Bool
fits_formals m u =
    ((length u.ins == length m.ins) && (length u.outs == length m.outs))
    && ((marks u.ins == 0) && (marks u.outs == 0))

abbrev pub has_parameter : Macro → List ℕ → Bool
has_parameter m name = list_any (assigns name) m.params

-- what a use gives of the macro's parameters
unfoldable pub given_to : Macro → List Binding → UseStatement → Judged (List Binding)
given_to m env u =
    demanded (not (is_some u.delay)) Bounds (
    demanded (are_of (has_parameter m) u.params) BadParameter (
    judging (values_given env u.params) (λ given.
    demanded (fits_formals m u) PinCount (Ok given))))

-- the value that a use gives to a parameter
abbrev pub value_given : List Binding → List ℕ → Option ℤ
value_given given name = option_map (λ (b : Binding). b.value) (find (is_named name) given)

-- A parameter has the value that is given, or else its default, in which the constants alone have
-- values.
abbrev pub value_or_default : List Binding → Option ℤ → Assignment → Judged ℤ
value_or_default consts (Some v) param = Ok v
value_or_default consts None param = valued consts param.value

abbrev pub parameter : List Binding → List Binding → Assignment → Judged Binding
parameter consts given param =
    judging (value_or_default consts (value_given given param.name) param) (λ v.
    Ok (record { name = param.name; value = v }))

abbrev pub parameters_of : List Binding → List Binding → List Assignment → Judged (List Binding)
parameters_of consts given params = collected (parameter consts given) [] params

-- a formal has its name, and the numbers of its bits
abbrev pub shape_of : List Binding → Formal → Judged Shape
shape_of env f =
    judging (written_ends env f.range) (λ ends.
    judging (numbers_of ends) (λ numbers.
    Ok (record { base = f.base; numbers = numbers })))

abbrev pub shapes_of : List Binding → List Formal → Judged (List Shape)
shapes_of env formals = collected (shape_of env) [] formals

-- What a body is expanded with, before anything is bound to its formals: the values of the
-- parameters and of the constants, which a parameter of the same name hides; and the formals.
unfoldable pub inside_of : List Binding → Macro → List Binding → Judged Inside
inside_of consts m given =
    judging (parameters_of consts given m.params) (λ params.
    judging (shapes_of (params ++ consts) m.ins) (λ ins.
    judging (shapes_of (params ++ consts) m.outs) (λ outs.
    Ok (record { env = params ++ consts; ins = ins; outs = outs }))))

-- so many bits: these, if they are so many, and one bit again and again
abbrev pub repeated : {B : Type 0} → List B → ℕ → Option (List B)
repeated (b ∷ []) n = Some (replicate n b)
repeated _ n = None

abbrev pub widened : {B : Type 0} → List B → ℕ → Option (List B)
widened bits n = if length bits == n then Some bits else repeated bits n

-- An input has its formal's width, or one bit that is spread over it; an output has exactly its
-- formal's width.
abbrev pub input_bits : {B : Type 0} → Shape → List B → Judged (List B)
input_bits shape bits = or_refuse (widened bits (length shape.numbers)) Width

abbrev pub output_bits : {B : Type 0} → Shape → List B → Judged (List B)
output_bits shape bits = demanded (length bits == length shape.numbers) Width (Ok bits)

abbrev pub bound : Shape → List Bit → Bound
bound shape bits = record { base = shape.base; numbers = shape.numbers; bits = bits }

abbrev pub input_bound : Shape × Joined → Judged Bound
input_bound pair = judging (input_bits pair.0 pair.1.bits) (λ bits. Ok (bound pair.0 bits))

abbrev pub output_bound : Shape × Joined → Judged Bound
output_bound pair = judging (output_bits pair.0 pair.1.bits) (λ bits. Ok (bound pair.0 bits))

abbrev pub inner_path : Scope → List ℕ → List ℕ
inner_path scope label = labelled scope label ++ codes "/"

unfoldable pub bound_scope : List ℕ → Inside → List Joined → List Joined → Judged Scope
bound_scope path inside ins outs =
    judging (collected input_bound [] (zip inside.ins ins)) (λ inputs.
    judging (collected output_bound [] (zip inside.outs outs)) (λ outputs.
    Ok (record { path = path; suffix = []; env = inside.env; formals = inputs ++ outputs })))

-- The scope of a macro's body at a use: its formals, the connections, their widths. No FOR is
-- around the body.
unfoldable pub inner_scope : List Binding → Macro → List Binding → Scope → UseStatement → State →
    Outcome Scope
inner_scope consts m given scope u s =
    judged (inside_of consts m given) u.place (λ inside.
    after (wires_of scope u s) (λ w s1.
    judged (bound_scope (inner_path scope u.label) inside w.ins w.outs) u.place (λ inner.
    Gives inner s1)))
