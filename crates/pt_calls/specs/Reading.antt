-- Calls as they are read: their fields one after the other, and a call from its bytes.
use Rattle.std.specs.Prelude.{ℕ, List, Option, Some}
use Rattle.xdr_base.specs.Reading.{Reading, at_start}
use Rattle.call_grammar.specs.Items as item
use Rattle.call_grammar.specs.Reading.{◌>>=◌, ItemsOf, values_at, whole, xdr_item}
use Rattle.pt_calls.specs.declared.calls.PtCall.{PtCall}
use Rattle.pt_calls.specs.declared.kinds.CallKind.{CallKind}
use Rattle.pt_calls.specs.Calls.{kind_numbered, shapes_of, call_from}
use Rattle.pt_calls.specs.Shapes.{value, shape_at}

-- a call of this kind
unfoldable pub call_at : {S : Type 0} → ItemsOf S → CallKind → S → Option (PtCall × S)
call_at item_at kind s = do
  found ← values_at value (shape_at item_at) (shapes_of kind) s
  Some (call_from kind found.0, found.1)

-- a call at the front: its number, and then its fields
unfoldable pub front_call : Reading → Option (PtCall × Reading)
front_call from = do
  number ← xdr_item item.Number from
  kind ← kind_numbered number.0
  call_at xdr_item kind number.1

-- the call that bytes spell, all of them
unfoldable pub call_of : List ℕ → Option PtCall
call_of bytes = whole (front_call (at_start bytes))
