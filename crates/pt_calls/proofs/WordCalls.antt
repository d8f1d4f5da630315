-- A call that words name is one: words never name bytes that are no call.
use Rattle.std.proofs.Common.{◌≡◌, ℕ, List, Some, subst}
use Rattle.std.specs.Int.{w32}
use Rattle.std.specs.Prelude.{FitsSigned}
use Rattle.call_grammar.specs.Items as item
use Rattle.call_grammar.specs.Reading.{◌>>=◌, values_at}
use Rattle.call_grammar.specs.Words.{first_word, last_of, word_item}
use Rattle.call_grammar.proofs.Taken.{bind_some, given_is}
use Rattle.call_grammar.proofs.WordItems.{item_is_bounded, item_has_bits, list_is, values_are, last_is}
use Rattle.pt_calls.specs.declared.calls.PtCall.{PtCall}
use Rattle.pt_calls.specs.declared.shapes.Shape.{Shape}
use Rattle.pt_calls.specs.declared.shapes.Shape.TheVariants.{Number, Id, Truth, Name, Names, Ids}
use Rattle.pt_calls.specs.Calls.{shapes_of, call_from, HasSpelling, IsCall}
use Rattle.pt_calls.specs.Laws.{NamesCalls}
use Rattle.pt_calls.specs.Reading.{call_at}
use Rattle.pt_calls.specs.Shapes.{value, shape_at, IsName, IsBounded, IsOfItsBits}
use Rattle.pt_calls.specs.Words.{kind_named, call_in_words}
use Rattle.pt_calls.proofs.Again.{spelling_again}
use Rattle.pt_calls.proofs.Taken.{made}

abbrev Words : Type 0
Words = List (List ℕ)

value_is_bounded : (shape : Shape) (words : Words) (x : value shape × Words) → shape_at word_item shape words ≡ Some x → IsBounded shape x.0
value_is_bounded Number words x e = tt
value_is_bounded Id words x e = tt
value_is_bounded Truth words x e = tt
value_is_bounded Name words x e = item_is_bounded item.Text words x e
value_is_bounded Names words x e = list_is 5000 (word_item item.Text) IsName (item_is_bounded item.Text) words x e
value_is_bounded Ids words x e = (list_is 5000 (word_item item.Signed) (λ z. Unit {0}) (λ words z e. tt) words x e).0

value_has_bits : (shape : Shape) (words : Words) (x : value shape × Words) → shape_at word_item shape words ≡ Some x → IsOfItsBits shape x.0
value_has_bits Number words x e = item_has_bits item.Number words x e
value_has_bits Id words x e = item_has_bits item.Signed words x e
value_has_bits Truth words x e = tt
value_has_bits Name words x e = tt
value_has_bits Names words x e = tt
value_has_bits Ids words x e = (list_is 5000 (word_item item.Signed) (FitsSigned w32) (item_has_bits item.Signed) words x e).1

pub named_is_call : (words : Words) (c : PtCall) → call_in_words words ≡ Some c → IsCall c
unfolding call_in_words call_at
named_is_call words c e =
    let w = bind_some (first_word words) (λ name. kind_named name.0 >>= λ kind. last_of (call_at word_item kind name.1)) c e in
    let k = bind_some (kind_named w.0.0) (λ kind. last_of (call_at word_item kind w.0.1)) c w.2 in
    let l = last_is (call_at word_item k.0 w.0.1) c k.2 in
    let v = bind_some (values_at value (shape_at word_item) (shapes_of k.0) w.0.1) (λ found. Some (call_from k.0 found.0, found.1))
    (c, l.0) l.1 in
    let bounded = values_are value (shape_at word_item) IsBounded value_is_bounded (shapes_of k.0) w.0.1 v.0 v.1 in
    let bits = values_are value (shape_at word_item) IsOfItsBits value_has_bits (shapes_of k.0) w.0.1 v.0 v.1 in
    subst (λ (y : PtCall × Words). IsCall y.0) (given_is (call_from k.0 v.0.0, v.0.1) (c, l.0) v.2)
    ((made k.0 v.0.0).bounded bounded, (made k.0 v.0.0).bits bits)

pub named_has_spelling : (words : Words) (c : PtCall) → call_in_words words ≡ Some c → HasSpelling c
named_has_spelling words c e = (named_is_call words c e).0

pub names_calls : NamesCalls
names_calls words c e = spelling_again c (named_is_call words c e)
