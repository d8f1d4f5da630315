use Rattle.std.proofs.Common.{◌≡◌, Bool, true, false, List, Option, Some, None, refl, sym, ap, subst, ◌∙◌}
use Rattle.xdr_base.specs.Reading.{Reading, at_start, word_at}
use Rattle.call_grammar.specs.Reading.{rest_of, values, values_at, xdr_item}
use Rattle.call_grammar.proofs.CallKinds.{no_number, no_kind, no_values, ended, not_ended}
use Rattle.vl_calls.specs.declared.kinds.CallKind.{CallKind}
use Rattle.vl_calls.specs.declared.shapes.Shape.{Shape}
use Rattle.vl_calls.specs.Calls.{kind_numbered, shapes_of, call_from, call_kind}
use Rattle.vl_calls.specs.Reading.{call_at, front_call, call_of}
use Rattle.vl_calls.specs.Shapes.{shape_at, value}
use Rattle.vl_calls.proofs.Taken.{made}
use Rattle.vl_calls.proofs.skipping.kind_of.Goals as goal

abbrev Values : CallKind → Type 0
Values k = values value (shapes_of k)

abbrev fields : (k : CallKind) → Reading → Option (Values k × Reading)
fields k s = values_at value (shape_at xdr_item) (shapes_of k) s

pub returns-in_default : goal.returns-in_default
unfolding call_of front_call
returns-in_default c =
    let number = ap word_at (sym c.new-from.ensures) ∙ c.in_default.ensures.exact.0 in
    sym (no_number kind_numbered (call_at xdr_item) call_kind (at_start c.args.bytes.now) c.in_default.field-0 number)

pub returns-in_err-kind : goal.returns-in_err-kind
unfolding call_of front_call
returns-in_err-kind c =
    let number = ap word_at (sym c.new-from.ensures) ∙ c.in-Ok.ensures.exact in
    c.from_residual.ensures ∙ sym (no_kind kind_numbered (call_at xdr_item) call_kind (at_start c.args.bytes.now)
    c.in-Ok.number c.get_u32.new.self number (sym c.in_err-kind.ensures))

pub returns-in_default-skip_all : goal.returns-in_default-skip_all
unfolding call_of front_call call_at
returns-in_default-skip_all c =
    let number = ap word_at (sym c.new-from.ensures) ∙ c.in-Ok.ensures.exact in
    let P : List Shape → Type 0 = λ l. rest_of (values_at value (shape_at xdr_item) l c.get_u32.new.self) ≡ None in
    let nothing = subst P c.shapes.ensures c.in_default-skip_all.ensures in
    sym (no_values Values kind_numbered fields call_from call_kind (at_start c.args.bytes.now) c.in-Ok.number c.get_u32.new.self
    c.in_ok-kind.kind number (sym c.in_ok-kind.ensures) nothing)

pub returns-in_default-end : goal.returns-in_default-end
unfolding call_of front_call call_at
returns-in_default-end c =
    let number = ap word_at (sym c.new-from.ensures) ∙ c.in-Ok.ensures.exact in
    let P : List Shape → Type 0 = λ l. rest_of (values_at value (shape_at xdr_item) l c.get_u32.new.self) ≡ Some c.skip_all.new.from in
    let behind = subst P c.shapes.ensures c.in-Ok-skip_all.ensures in
    sym (not_ended Values kind_numbered fields call_from call_kind (at_start c.args.bytes.now) c.in-Ok.number c.get_u32.new.self
    c.skip_all.new.from c.in_ok-kind.kind number (sym c.in_ok-kind.ensures) behind
    (λ h. let e : ◌≡◌ {A = Bool} false true = c.in_default-end.ensures.done.1 h in cc))

pub returns : goal.returns
unfolding call_of front_call call_at
returns c =
    let number = ap word_at (sym c.new-from.ensures) ∙ c.in-Ok.ensures.exact in
    let P : List Shape → Type 0 = λ l. rest_of (values_at value (shape_at xdr_item) l c.get_u32.new.self) ≡ Some c.skip_all.new.from in
    let behind = subst P c.shapes.ensures c.in-Ok-skip_all.ensures in
    sym (ended Values kind_numbered fields call_from call_kind (at_start c.args.bytes.now) c.in-Ok.number c.get_u32.new.self
    c.skip_all.new.from c.in_ok-kind.kind (λ v. (made c.in_ok-kind.kind v).kind) number (sym c.in_ok-kind.ensures) behind
    (c.in-Ok-end.ensures.done.0 refl))
