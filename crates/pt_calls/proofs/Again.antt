-- A call that is spelled at a reader's place stands there.
use Rattle.std.proofs.Common.{◌≡◌, ℕ, ◌^◌, ◌<◌, List, [], ◌++◌, Some, refl, sym, ◌∙◌, append_assoc, arith}
use Rattle.std.specs.Int.{w32}
use Rattle.std.specs.Prelude.{FitsSigned}
use Rattle.std.proofs.lemmas.List.{append-nil}
use Rattle.xdr_base.specs.Reading.{Reading, at_start}
use Rattle.xdr_base.specs.Spelling.{word, signed, opaque}
use Rattle.call_grammar.specs.Items as item
use Rattle.call_grammar.specs.Items.{xdr_text}
use Rattle.call_grammar.specs.Lists.{spelled}
use Rattle.call_grammar.specs.Reading.{values, values_at, AllValues, xdr_item}
use Rattle.call_grammar.proofs.Again.{Again, number_again, signed_again, truth_again, text_again, list_again, values_again, ended, none_begins}
use Rattle.pt_calls.specs.declared.calls.PtCall.{PtCall}
use Rattle.pt_calls.specs.declared.calls.PtCall.TheVariants as call
use Rattle.pt_calls.specs.declared.kinds.CallKind.{CallKind}
use Rattle.pt_calls.specs.declared.kinds.CallKind.TheVariants as kinds
use Rattle.pt_calls.specs.declared.shapes.Shape.{Shape}
use Rattle.pt_calls.specs.declared.shapes.Shape.TheVariants.{Number, Id, Truth, Name, Names, Ids}
use Rattle.pt_calls.specs.Shapes.{value, shape_at, shape_text, IsName, IsBounded, IsOfItsBits}
use Rattle.pt_calls.specs.Calls.{kind_number, kind_numbered, shapes_of, call_from, call_kind, call_values, spelling, IsCall}
use Rattle.pt_calls.specs.Reading.{call_at, front_call, call_of}

value_again : (shape : Shape) (v : value shape) (from : Reading) (after : List ℕ) → IsBounded shape v → IsOfItsBits shape v
    → from.rest ≡ shape_text xdr_text shape v ++ after → Again (shape_at xdr_item shape from) v after
value_again Number n from after bounded bits e = number_again n from after bits e
value_again Id z from after bounded bits e = signed_again z from after bits e
value_again Truth b from after bounded bits e = truth_again b from after e
value_again Name text from after bounded bits e = text_again text from after bounded e
value_again Names texts from after bounded bits e =
    list_again 5000 (omega arith) (xdr_item item.Text) opaque IsName text_again texts from after bounded.0 bounded.1 e
value_again Ids ids from after bounded bits e =
    list_again 5000 (omega arith) (xdr_item item.Signed) signed (FitsSigned w32) signed_again ids from after bounded bits e

pub fields_again : (shapes : List Shape) (v : values value shapes) (from : Reading) (after : List ℕ) → AllValues value IsBounded shapes v
    → AllValues value IsOfItsBits shapes v → from.rest ≡ spelled value (shape_text xdr_text) shapes v ++ after
    → Again (values_at value (shape_at xdr_item) shapes from) v after
fields_again = values_again value (shape_at xdr_item) (shape_text xdr_text) IsBounded IsOfItsBits value_again

numbered_again : (k : CallKind) → kind_numbered (kind_number k) ≡ Some k
numbered_again kinds.NewEntry = refl
numbered_again kinds.INewEntry = refl
numbered_again kinds.NameToId = refl
numbered_again kinds.IdToName = refl
numbered_again kinds.Delete = refl
numbered_again kinds.AddToGroup = refl
numbered_again kinds.RemoveFromGroup = refl
numbered_again kinds.GetCps = refl
numbered_again kinds.ListMax = refl
numbered_again kinds.SetMax = refl
numbered_again kinds.ListEntry = refl
numbered_again kinds.ListEntries = refl
numbered_again kinds.ChangeEntry = refl
numbered_again kinds.SetFields = refl
numbered_again kinds.ListElements = refl
numbered_again kinds.IsMemberOf = refl
numbered_again kinds.ListOwned = refl

small : (k : CallKind) → kind_number k < 2 ^ 32
small kinds.NewEntry = omega arith
small kinds.INewEntry = omega arith
small kinds.NameToId = omega arith
small kinds.IdToName = omega arith
small kinds.Delete = omega arith
small kinds.AddToGroup = omega arith
small kinds.RemoveFromGroup = omega arith
small kinds.GetCps = omega arith
small kinds.ListMax = omega arith
small kinds.SetMax = omega arith
small kinds.ListEntry = omega arith
small kinds.ListEntries = omega arith
small kinds.ChangeEntry = omega arith
small kinds.SetFields = omega arith
small kinds.ListElements = omega arith
small kinds.IsMemberOf = omega arith
small kinds.ListOwned = omega arith

made_again : (c : PtCall) → call_from (call_kind c) (call_values c) ≡ c
made_again (call.NewEntry name kind owner) = refl
made_again (call.INewEntry name id owner) = refl
made_again (call.NameToId names) = refl
made_again (call.IdToName ids) = refl
made_again (call.Delete id) = refl
made_again (call.AddToGroup member group) = refl
made_again (call.RemoveFromGroup member group) = refl
made_again (call.GetCps id) = refl
made_again call.ListMax = refl
made_again (call.SetMax id is_group) = refl
made_again (call.ListEntry id) = refl
made_again (call.ListEntries which after) = refl
made_again (call.ChangeEntry id name owner new_id) = refl
made_again (call.SetFields id mask flags quota) = refl
made_again (call.ListElements id) = refl
made_again (call.IsMemberOf member group) = refl
made_again (call.ListOwned id) = refl

pub call_again : (c : PtCall) (from : Reading) (after : List ℕ) → IsCall c → from.rest ≡ spelling c ++ after
    → Again (front_call from) c after
unfolding front_call call_at
call_again c from after fits e =
    let k = call_kind c in
    let fields = spelled value (shape_text xdr_text) (shapes_of k) (call_values c) in
    let number = number_again (kind_number k) from (fields ++ after) (small k) (e ∙ append_assoc (word (kind_number k)) fields after) in
    let v = fields_again (shapes_of k) (call_values c) number.behind after fits.0 fits.1 number.rest in
    record { behind = v.behind; is = rw (number.is, numbered_again k, v.is, made_again c) refl; rest = v.rest }

pub spelling_again : (c : PtCall) → IsCall c → call_of (spelling c) ≡ Some c
unfolding call_of
spelling_again c fits =
    ended (front_call (at_start (spelling c))) c (call_again c (at_start (spelling c)) [] fits (sym (append-nil (spelling c))))

pub begins_none : (c d : PtCall) (x y : List ℕ) → IsCall c → IsCall d → spelling c ++ x ≡ spelling d ++ y → (c ≡ d) × (x ≡ y)
begins_none c d x y p q e =
    let from = at_start (spelling c ++ x) in
    none_begins front_call from c d x y (call_again c from x p refl) (call_again d from y q e)
