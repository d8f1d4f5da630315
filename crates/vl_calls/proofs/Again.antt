-- A call that is spelled at a reader's place stands there.
use Rattle.std.proofs.Common.{◌≡◌, ℕ, ◌^◌, ◌<◌, List, [], ◌++◌, Some, refl, sym, ◌∙◌, append_assoc, arith}
use Rattle.std.proofs.lemmas.List.{append-nil}
use Rattle.xdr_base.specs.Reading.{Reading, at_start}
use Rattle.xdr_base.specs.Spelling.{word}
use Rattle.call_grammar.specs.Items.{xdr_text}
use Rattle.call_grammar.specs.Lists.{spelled}
use Rattle.call_grammar.specs.Reading.{xdr_item}
use Rattle.call_grammar.proofs.Again.{Again, number_again, signed_again, truth_again, text_again, values_again, ended, none_begins}
use Rattle.vl_calls.specs.declared.calls.VlCall.{VlCall}
use Rattle.vl_calls.specs.declared.calls.VlCall.TheVariants as call
use Rattle.vl_calls.specs.declared.kinds.CallKind.{CallKind}
use Rattle.vl_calls.specs.declared.kinds.CallKind.TheVariants as kinds
use Rattle.vl_calls.specs.declared.shapes.Shape.{Shape}
use Rattle.vl_calls.specs.declared.shapes.Shape.TheVariants.{Number, Signed, Truth, Name, Entry}
use Rattle.vl_calls.specs.Shapes.{value, shape_at, shape_text, IsBounded, IsOfItsBits}
use Rattle.vl_calls.specs.Calls.{kind_number, kind_numbered, shapes_of, call_from, call_kind, call_values, spelling, IsCall}
use Rattle.vl_calls.specs.Reading.{call_at, front_call, call_of}
use Rattle.vl_calls.proofs.EntriesAgain.{given_again}

value_again : (shape : Shape) (v : value shape) (from : Reading) (after : List ℕ) → IsBounded shape v → IsOfItsBits shape v
    → from.rest ≡ shape_text xdr_text shape v ++ after → Again (shape_at xdr_item shape from) v after
value_again Number n from after bounded bits e = number_again n from after bits e
value_again Signed z from after bounded bits e = signed_again z from after bits e
value_again Truth b from after bounded bits e = truth_again b from after e
value_again Name text from after bounded bits e = text_again text from after bounded e
value_again Entry entry from after bounded bits e = given_again entry from after bounded bits e

numbered_again : (k : CallKind) → kind_numbered (kind_number k) ≡ Some k
numbered_again kinds.GetNewVolumeId = refl
numbered_again kinds.CreateEntry = refl
numbered_again kinds.DeleteEntry = refl
numbered_again kinds.GetEntryById = refl
numbered_again kinds.GetEntryByName = refl
numbered_again kinds.ReplaceEntry = refl
numbered_again kinds.SetLock = refl
numbered_again kinds.ReleaseLock = refl
numbered_again kinds.ListAttributes = refl
numbered_again kinds.GetAddrs = refl
numbered_again kinds.ChangeAddr = refl
numbered_again kinds.Probe = refl

small : (k : CallKind) → kind_number k < 2 ^ 32
small kinds.GetNewVolumeId = omega arith
small kinds.CreateEntry = omega arith
small kinds.DeleteEntry = omega arith
small kinds.GetEntryById = omega arith
small kinds.GetEntryByName = omega arith
small kinds.ReplaceEntry = omega arith
small kinds.SetLock = omega arith
small kinds.ReleaseLock = omega arith
small kinds.ListAttributes = omega arith
small kinds.GetAddrs = omega arith
small kinds.ChangeAddr = omega arith
small kinds.Probe = omega arith

made_again : (c : VlCall) → call_from (call_kind c) (call_values c) ≡ c
made_again (call.GetNewVolumeId bump) = refl
made_again (call.CreateEntry e) = refl
made_again (call.DeleteEntry id volume_type) = refl
made_again (call.GetEntryById id volume_type) = refl
made_again (call.GetEntryByName name) = refl
made_again (call.ReplaceEntry id volume_type e mask) = refl
made_again (call.SetLock id volume_type operation) = refl
made_again (call.ReleaseLock id volume_type mask) = refl
made_again (call.ListAttributes after host partition locked) = refl
made_again call.GetAddrs = refl
made_again (call.ChangeAddr from to) = refl
made_again call.Probe = refl

pub call_again : (c : VlCall) (from : Reading) (after : List ℕ) → IsCall c → from.rest ≡ spelling c ++ after
    → Again (front_call from) c after
unfolding front_call call_at
call_again c from after fits e =
    let k = call_kind c in
    let fields = spelled value (shape_text xdr_text) (shapes_of k) (call_values c) in
    let number = number_again (kind_number k) from (fields ++ after) (small k) (e ∙ append_assoc (word (kind_number k)) fields after) in
    let v = values_again value (shape_at xdr_item) (shape_text xdr_text) IsBounded IsOfItsBits value_again (shapes_of k)
    (call_values c) number.behind after fits.0 fits.1 number.rest in
    record { behind = v.behind; is = rw (number.is, numbered_again k, v.is, made_again c) refl; rest = v.rest }

pub spelling_again : (c : VlCall) → IsCall c → call_of (spelling c) ≡ Some c
unfolding call_of
spelling_again c fits =
    ended (front_call (at_start (spelling c))) c (call_again c (at_start (spelling c)) [] fits (sym (append-nil (spelling c))))

pub begins_none : (c d : VlCall) (x y : List ℕ) → IsCall c → IsCall d → spelling c ++ x ≡ spelling d ++ y → (c ≡ d) × (x ≡ y)
begins_none c d x y p q e =
    let from = at_start (spelling c ++ x) in
    none_begins front_call from c d x y (call_again c from x p refl) (call_again d from y q e)
