-- A call that words name is one.
use Rattle.std.proofs.Common.{◌≡◌, ℕ, ◌<◌, ◌^◌, List, Some, subst}
use Rattle.call_grammar.specs.Items as item
use Rattle.call_grammar.specs.Reading.{◌>>=◌, values_at}
use Rattle.call_grammar.specs.Words.{first_word, last_of, word_item}
use Rattle.call_grammar.proofs.Taken.{bind_some, given_is}
use Rattle.call_grammar.proofs.WordItems.{item_is_bounded, item_has_bits, list_is, values_are, last_is}
use Rattle.vl_calls.specs.declared.calls.GivenEntry.{GivenEntry}
use Rattle.vl_calls.specs.declared.calls.VlCall.{VlCall}
use Rattle.vl_calls.specs.declared.shapes.Shape.{Shape}
use Rattle.vl_calls.specs.declared.shapes.Shape.TheVariants as shapes
use Rattle.vldb_entries.specs.declared.entries.VlSite.{VlSite}
use Rattle.vl_calls.specs.Calls.{shapes_of, call_from, HasSpelling, IsCall}
use Rattle.vl_calls.specs.Entries.{site_at, SiteHasItsBits, Part, Name, Number, Sites, part_value, part_at, IsPart, PartHasItsBits, given_parts, given_from, given_at, IsGiven, GivenHasItsBits}
use Rattle.vl_calls.specs.Reading.{call_at}
use Rattle.vl_calls.specs.Shapes.{value, shape_at, IsBounded, IsOfItsBits}
use Rattle.vl_calls.specs.Words.{kind_named, call_in_words}
use Rattle.vl_calls.proofs.Taken.{made}

abbrev Words : Type 0
Words = List (List ℕ)

part_is_bounded : (part : Part) (words : Words) (x : part_value part × Words) → part_at word_item part words ≡ Some x → IsPart part x.0
part_is_bounded Name words x e = item_is_bounded item.Text words x e
part_is_bounded Number words x e = tt
part_is_bounded Sites words x e = (list_is 255 (site_at word_item) (λ (s : VlSite). Unit {0}) (λ words x e. tt) words x e).0

given_is_bounded : (words : Words) (x : GivenEntry × Words) → given_at word_item words ≡ Some x → IsGiven x.0
unfolding given_at IsGiven
given_is_bounded words x e =
    let v = bind_some (values_at part_value (part_at word_item) given_parts words) (λ v. Some (given_from v.0, v.1)) x e in
    let bounded = values_are part_value (part_at word_item) IsPart part_is_bounded given_parts words v.0 v.1 in
    subst (λ (y : GivenEntry × Words). IsGiven y.0) (given_is (given_from v.0.0, v.0.1) x v.2) bounded

value_is_bounded : (shape : Shape) (words : Words) (x : value shape × Words) → shape_at word_item shape words ≡ Some x → IsBounded shape x.0
value_is_bounded shapes.Number words x e = tt
value_is_bounded shapes.Signed words x e = tt
value_is_bounded shapes.Truth words x e = tt
value_is_bounded shapes.Name words x e = item_is_bounded item.Text words x e
value_is_bounded shapes.Entry words x e = given_is_bounded words x e

-- ---- and has its bits

number_has_bits : (words : Words) (x : ℕ × Words) → word_item item.Number words ≡ Some x → x.0 < 2 ^ 32
number_has_bits words x e = item_has_bits item.Number words x e

abbrev site_of : ℕ → ℕ → ℕ → VlSite
site_of host partition flags = record { host = host; partition = partition; flags = flags }

site_has_bits : (words : Words) (x : VlSite × Words) → site_at word_item words ≡ Some x → SiteHasItsBits x.0
unfolding site_at
site_has_bits words x e =
    let a = bind_some (word_item item.Number words)
    (λ h. word_item item.Number h.1 >>= λ p. word_item item.Number p.1 >>= λ f. Some (site_of h.0 p.0 f.0, f.1)) x e in
    let b = bind_some (word_item item.Number a.0.1) (λ p. word_item item.Number p.1 >>= λ f. Some (site_of a.0.0 p.0 f.0, f.1)) x a.2 in
    let c = bind_some (word_item item.Number b.0.1) (λ f. Some (site_of a.0.0 b.0.0 f.0, f.1)) x b.2 in
    subst (λ (y : VlSite × Words). SiteHasItsBits y.0) (given_is (site_of a.0.0 b.0.0 c.0.0, c.0.1) x c.2)
    (number_has_bits words a.0 a.1, number_has_bits a.0.1 b.0 b.1, number_has_bits b.0.1 c.0 c.1)

part_has_bits : (part : Part) (words : Words) (x : part_value part × Words) → part_at word_item part words ≡ Some x
    → PartHasItsBits part x.0
part_has_bits Name words x e = tt
part_has_bits Number words x e = item_has_bits item.Number words x e
part_has_bits Sites words x e = (list_is 255 (site_at word_item) SiteHasItsBits site_has_bits words x e).1

given_has_bits : (words : Words) (x : GivenEntry × Words) → given_at word_item words ≡ Some x → GivenHasItsBits x.0
unfolding given_at GivenHasItsBits
given_has_bits words x e =
    let v = bind_some (values_at part_value (part_at word_item) given_parts words) (λ v. Some (given_from v.0, v.1)) x e in
    let bits = values_are part_value (part_at word_item) PartHasItsBits part_has_bits given_parts words v.0 v.1 in
    subst (λ (y : GivenEntry × Words). GivenHasItsBits y.0) (given_is (given_from v.0.0, v.0.1) x v.2) bits

value_has_bits : (shape : Shape) (words : Words) (x : value shape × Words) → shape_at word_item shape words ≡ Some x → IsOfItsBits shape x.0
value_has_bits shapes.Number words x e = item_has_bits item.Number words x e
value_has_bits shapes.Signed words x e = item_has_bits item.Signed words x e
value_has_bits shapes.Truth words x e = tt
value_has_bits shapes.Name words x e = tt
value_has_bits shapes.Entry words x e = given_has_bits words x e

pub named_is_call : (words : Words) (c : VlCall) → call_in_words words ≡ Some c → IsCall c
unfolding call_in_words call_at
named_is_call words c e =
    let w = bind_some (first_word words) (λ name. kind_named name.0 >>= λ kind. last_of (call_at word_item kind name.1)) c e in
    let k = bind_some (kind_named w.0.0) (λ kind. last_of (call_at word_item kind w.0.1)) c w.2 in
    let l = last_is (call_at word_item k.0 w.0.1) c k.2 in
    let v = bind_some (values_at value (shape_at word_item) (shapes_of k.0) w.0.1) (λ found. Some (call_from k.0 found.0, found.1))
    (c, l.0) l.1 in
    let bounded = values_are value (shape_at word_item) IsBounded value_is_bounded (shapes_of k.0) w.0.1 v.0 v.1 in
    let bits = values_are value (shape_at word_item) IsOfItsBits value_has_bits (shapes_of k.0) w.0.1 v.0 v.1 in
    subst (λ (y : VlCall × Words). IsCall y.0) (given_is (call_from k.0 v.0.0, v.0.1) (c, l.0) v.2)
    ((made k.0 v.0.0).bounded bounded, (made k.0 v.0.0).bits bits)

pub named_has_spelling : (words : Words) (c : VlCall) → call_in_words words ≡ Some c → HasSpelling c
named_has_spelling words c e = (named_is_call words c e).0
