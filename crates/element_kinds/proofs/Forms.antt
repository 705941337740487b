-- What is asked of a kind by its form is what is asked of its form.
use Rattle.std.proofs.Common.{◌≡◌, refl}
use Rattle.element_kinds.specs.declared.kind.Kind.{Kind}
use Rattle.element_kinds.specs.declared.kind.Kind.TheVariants.{Buf}
use Rattle.element_kinds.specs.declared.form.Form.{Form}
use Rattle.element_kinds.specs.Kinds.{by_form, form_of}

pub of_form : {A : Type 0} (f : Form → A) (kind : Kind) → f (form_of kind) ≡ by_form f kind
of_form f Buf = refl
of_form f kind = refl
