-- A call that stands at a reader's place is spelled there.
use Rattle.std.proofs.Common.{◌≡◌, ℕ, List, ◌++◌, Some, refl, sym, ap, subst, ◌∙◌}
use Rattle.std.specs.Int.{w32}
use Rattle.std.specs.Prelude.{FitsSigned}
use Rattle.std.proofs.lemmas.List.{append-nil}
use Rattle.xdr_base.specs.Reading.{Reading, at_start}
use Rattle.xdr_base.specs.Spelling.{word, signed, opaque}
use Rattle.call_grammar.specs.Items as item
use Rattle.call_grammar.specs.Items.{xdr_text}
use Rattle.call_grammar.specs.Laws.{IsBytes}
use Rattle.call_grammar.specs.Lists.{spelled}
use Rattle.call_grammar.specs.Reading.{◌>>=◌, values, values_at, AllValues, xdr_item}
use Rattle.call_grammar.proofs.ItemsTaken.{Takes, then_takes, number_takes, signed_takes, truth_takes, text_takes}
use Rattle.call_grammar.proofs.Taken.{bind_some, given_is, list_takes, TakesAll, values_take, test, whole_is}
use Rattle.pt_calls.specs.declared.calls.PtCall.{PtCall}
use Rattle.pt_calls.specs.declared.kinds.CallKind.{CallKind}
use Rattle.pt_calls.specs.declared.kinds.CallKind.TheVariants as kinds
use Rattle.pt_calls.specs.declared.shapes.Shape.{Shape}
use Rattle.pt_calls.specs.declared.shapes.Shape.TheVariants.{Number, Id, Truth, Name, Names, Ids}
use Rattle.pt_calls.specs.Shapes.{value, shape_at, shape_text, IsName, IsBounded, IsOfItsBits}
use Rattle.pt_calls.specs.Calls.{kind_number, kind_numbered, shapes_of, call_from, call_kind, spelling, HasSpelling, HasItsBits, IsCall}
use Rattle.pt_calls.specs.Reading.{call_at, front_call, call_of}

value_takes : (shape : Shape) (from : Reading) (x : value shape × Reading) → IsBytes from.rest → shape_at xdr_item shape from ≡ Some x
    → Takes from (shape_text xdr_text shape x.0) x.1 × IsBounded shape x.0 × IsOfItsBits shape x.0
value_takes Number from x fits e = let t = number_takes from x fits e in (t.0, tt, t.1)
value_takes Id from x fits e = let t = signed_takes from x fits e in (t.0, tt, t.1)
value_takes Truth from x fits e = (truth_takes from x fits e, tt, tt)
value_takes Name from x fits e = let t = text_takes from x fits e in (t.0, t.1, tt)
value_takes Names from x fits e =
    let t = list_takes 5000 (xdr_item item.Text) opaque IsName text_takes from x fits e in (t.0, (t.1, t.2), tt)
value_takes Ids from x fits e =
    let t = list_takes 5000 (xdr_item item.Signed) signed (FitsSigned w32) signed_takes from x fits e in (t.0, t.1, t.2)

pub fields_take : (shapes : List Shape) (from : Reading) (x : values value shapes × Reading) → IsBytes from.rest
    → values_at value (shape_at xdr_item) shapes from ≡ Some x
    → TakesAll value (shape_text xdr_text) IsBounded IsOfItsBits from shapes x.0 x.1
fields_take = values_take value (shape_at xdr_item) (shape_text xdr_text) IsBounded IsOfItsBits value_takes

-- the call of a kind with these values is that call
pub record Made (k : CallKind) (v : values value (shapes_of k)) : Type 0 where
  pub spell : spelling (call_from k v) ≡ word (kind_number k) ++ spelled value (shape_text xdr_text) (shapes_of k) v
  pub bounded : AllValues value IsBounded (shapes_of k) v → HasSpelling (call_from k v)
  pub bits : AllValues value IsOfItsBits (shapes_of k) v → HasItsBits (call_from k v)
  pub kind : call_kind (call_from k v) ≡ k

pub made : (k : CallKind) (v : values value (shapes_of k)) → Made k v
made kinds.NewEntry v = record { spell = refl; bounded = λ p. p; bits = λ p. p; kind = refl }
made kinds.INewEntry v = record { spell = refl; bounded = λ p. p; bits = λ p. p; kind = refl }
made kinds.NameToId v = record { spell = refl; bounded = λ p. p; bits = λ p. p; kind = refl }
made kinds.IdToName v = record { spell = refl; bounded = λ p. p; bits = λ p. p; kind = refl }
made kinds.Delete v = record { spell = refl; bounded = λ p. p; bits = λ p. p; kind = refl }
made kinds.AddToGroup v = record { spell = refl; bounded = λ p. p; bits = λ p. p; kind = refl }
made kinds.RemoveFromGroup v = record { spell = refl; bounded = λ p. p; bits = λ p. p; kind = refl }
made kinds.GetCps v = record { spell = refl; bounded = λ p. p; bits = λ p. p; kind = refl }
made kinds.ListMax v = record { spell = refl; bounded = λ p. p; bits = λ p. p; kind = refl }
made kinds.SetMax v = record { spell = refl; bounded = λ p. p; bits = λ p. p; kind = refl }
made kinds.ListEntry v = record { spell = refl; bounded = λ p. p; bits = λ p. p; kind = refl }
made kinds.ListEntries v = record { spell = refl; bounded = λ p. p; bits = λ p. p; kind = refl }
made kinds.ChangeEntry v = record { spell = refl; bounded = λ p. p; bits = λ p. p; kind = refl }
made kinds.SetFields v = record { spell = refl; bounded = λ p. p; bits = λ p. p; kind = refl }
made kinds.ListElements v = record { spell = refl; bounded = λ p. p; bits = λ p. p; kind = refl }
made kinds.IsMemberOf v = record { spell = refl; bounded = λ p. p; bits = λ p. p; kind = refl }
made kinds.ListOwned v = record { spell = refl; bounded = λ p. p; bits = λ p. p; kind = refl }

abbrev IsNumbered : ℕ → CallKind → Type 0
IsNumbered n k = kind_number k ≡ n

numbered : (n : ℕ) (k : CallKind) → kind_numbered n ≡ Some k → kind_number k ≡ n
numbered n k e =
    test n 1 _ k _ IsNumbered e refl λ e. test n 2 _ k _ IsNumbered e refl λ e. test n 3 _ k _ IsNumbered e refl λ e.
    test n 4 _ k _ IsNumbered e refl λ e. test n 5 _ k _ IsNumbered e refl λ e. test n 6 _ k _ IsNumbered e refl λ e.
    test n 7 _ k _ IsNumbered e refl λ e. test n 8 _ k _ IsNumbered e refl λ e. test n 9 _ k _ IsNumbered e refl λ e.
    test n 10 _ k _ IsNumbered e refl λ e. test n 11 _ k _ IsNumbered e refl λ e. test n 12 _ k _ IsNumbered e refl λ e.
    test n 13 _ k _ IsNumbered e refl λ e. test n 14 _ k _ IsNumbered e refl λ e. test n 15 _ k _ IsNumbered e refl λ e.
    test n 16 _ k _ IsNumbered e refl λ e. test n 17 _ k _ IsNumbered e refl λ e. absurd cc

call_taken : (from : Reading) (x : PtCall × Reading) → IsBytes from.rest → front_call from ≡ Some x → Takes from (spelling x.0) x.1
    × IsCall x.0
unfolding front_call call_at
call_taken from x fits e =
    let n = bind_some (xdr_item item.Number from)
    (λ number. kind_numbered number.0 >>= λ kind. values_at value (shape_at xdr_item) (shapes_of kind) number.1 >>= λ found. Some
    (call_from kind found.0, found.1)) x e in
    let k = bind_some (kind_numbered n.0.0)
    (λ kind. values_at value (shape_at xdr_item) (shapes_of kind) n.0.1 >>= λ found. Some (call_from kind found.0, found.1)) x n.2 in
    let v = bind_some (values_at value (shape_at xdr_item) (shapes_of k.0) n.0.1) (λ found. Some (call_from k.0 found.0, found.1)) x k.2 in
    let number = number_takes from n.0 fits n.1 in
    let all = fields_take (shapes_of k.0) n.0.1 v.0 number.0.left v.1 in
    let fields = spelled value (shape_text xdr_text) (shapes_of k.0) v.0.0 in
    let both = then_takes from n.0.1 v.0.1 (word n.0.0) fields number.0 all.takes in
    let of_kind = made k.0 v.0.0 in
    let text : word n.0.0 ++ fields ≡ spelling (call_from k.0 v.0.0) = ap (λ (m : ℕ). word m ++ fields) (sym (numbered n.0.0 k.0 k.1))
    ∙ sym of_kind.spell in
    subst (λ (y : PtCall × Reading). Takes from (spelling y.0) y.1 × IsCall y.0) (given_is (call_from k.0 v.0.0, v.0.1) x v.2)
    (rw (← text) both, (of_kind.bounded all.bounded, of_kind.bits all.bits))

pub read_alone : (bytes : List ℕ) (c : PtCall) → IsBytes bytes → call_of bytes ≡ Some c → IsCall c × (bytes ≡ spelling c)
unfolding call_of
read_alone bytes c fits e =
    let w = whole_is (front_call (at_start bytes)) c e in
    let t = call_taken (at_start bytes) (c, w.0) fits w.1 in
    (t.1, t.0.parts ∙ ap (λ (r : List ℕ). spelling c ++ r) w.2 ∙ append-nil (spelling c))
