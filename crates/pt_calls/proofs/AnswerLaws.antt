-- An answer is read from its spelling, and from no other bytes.
use Rattle.std.proofs.Common.{◌≡◌, ℕ, List, [], ◌++◌, Some, refl, sym, ap, subst, ◌∙◌, append_assoc, arith}
use Rattle.std.specs.Prelude.{FitsSigned}
use Rattle.std.specs.Int.{w32}
use Rattle.std.proofs.lemmas.List.{append-nil}
use Rattle.xdr_base.specs.Reading.{Reading, at_start}
use Rattle.xdr_base.specs.Spelling.{signed, opaque}
use Rattle.call_grammar.specs.Items as item
use Rattle.call_grammar.specs.Items.{xdr_text}
use Rattle.call_grammar.specs.Laws.{IsBytes}
use Rattle.call_grammar.specs.Reading.{◌>>=◌, list_at, values_at, xdr_item}
use Rattle.call_grammar.proofs.Again.{Again, ended, signed_again, text_again, truth_again, list_again}
use Rattle.call_grammar.proofs.Both.{both_all, first_all, second_all}
use Rattle.call_grammar.proofs.ItemsTaken.{Takes, then_takes, signed_takes, text_takes, truth_takes}
use Rattle.call_grammar.proofs.Taken.{bind_some, given_is, list_takes, whole_is}
use Rattle.pt_calls.specs.declared.answers.AnswerKind.{AnswerKind}
use Rattle.pt_calls.specs.declared.answers.AnswerKind.TheVariants as tells
use Rattle.pt_calls.specs.declared.answers.PtAnswer.{PtAnswer}
use Rattle.pt_calls.specs.declared.answers.PtAnswer.TheVariants as answer
use Rattle.pt_calls.specs.declared.answers.PtEntry.{PtEntry}
use Rattle.pt_calls.specs.Answers.{entry_shapes, entry_values, entry_from, entry_spelling, entry_text, IsEntryText, HasEntryBits, answer_kind, answer_spelling, IsAnswer, entry_at, answer_at, answer_of}
use Rattle.pt_calls.specs.Shapes.{value, shape_at, IsName}
use Rattle.pt_calls.proofs.Again.{fields_again}
use Rattle.pt_calls.proofs.Taken.{fields_take}

entry_again : (e : PtEntry) (from : Reading) (after : List ℕ) → IsEntryText e × HasEntryBits e → from.rest ≡ entry_spelling e ++ after
    → Again (entry_at from) e after
unfolding entry_at entry_text IsEntryText HasEntryBits
entry_again e from after fits spelt =
    let v = fields_again entry_shapes (entry_values e) from after fits.0 fits.1 spelt in
    record { behind = v.behind; is = rw v.is refl; rest = v.rest }

answer_again : (a : PtAnswer) (from : Reading) (after : List ℕ) → IsAnswer a → from.rest ≡ answer_spelling a ++ after
    → Again (answer_at (answer_kind a) from) a after
unfolding answer_at
answer_again answer.Done from after fits e = record { behind = from; is = refl; rest = e }
answer_again (answer.Id id) from after fits e =
    let v = signed_again id from after fits.1 e in
    record { behind = v.behind; is = rw v.is refl; rest = v.rest }
answer_again (answer.Ids ids) from after fits e =
    let v = list_again 262143 (omega arith) (xdr_item item.Signed) signed (FitsSigned w32) signed_again ids from after fits.0 fits.1 e in
    record { behind = v.behind; is = rw v.is refl; rest = v.rest }
answer_again (answer.Names names) from after fits e =
    let v = list_again 5000 (omega arith) (xdr_item item.Text) opaque IsName text_again names from after fits.0.0 fits.0.1 e in
    record { behind = v.behind; is = rw v.is refl; rest = v.rest }
answer_again (answer.Maxima user group) from after fits e =
    let u = signed_again user from (signed group ++ after) fits.1.0 (e ∙ append_assoc (signed user) (signed group) after) in
    let g = signed_again group u.behind after fits.1.1 u.rest in
    record { behind = g.behind; is = rw (u.is, g.is) refl; rest = g.rest }
answer_again (answer.Truth b) from after fits e =
    let v = truth_again b from after e in
    record { behind = v.behind; is = rw v.is refl; rest = v.rest }
answer_again (answer.Entry entry) from after fits e =
    let v = entry_again entry from after fits e in
    record { behind = v.behind; is = rw v.is refl; rest = v.rest }
answer_again (answer.Entries es) from after fits e =
    let v = list_again 100 (omega arith) entry_at entry_spelling (λ x. IsEntryText x × HasEntryBits x) entry_again es from after fits.0.0
    (both_all IsEntryText HasEntryBits es fits.0.1 fits.1) e in
    record { behind = v.behind; is = rw v.is refl; rest = v.rest }

pub spelling_again : (a : PtAnswer) → IsAnswer a → answer_of (answer_kind a) (answer_spelling a) ≡ Some a
unfolding answer_of
spelling_again a fits =
    ended (answer_at (answer_kind a) (at_start (answer_spelling a))) a
    (answer_again a (at_start (answer_spelling a)) [] fits (sym (append-nil (answer_spelling a))))

entry_takes : (from : Reading) (x : PtEntry × Reading) → IsBytes from.rest → entry_at from ≡ Some x → Takes from (entry_spelling x.0) x.1
    × (IsEntryText x.0 × HasEntryBits x.0)
unfolding entry_at entry_text IsEntryText HasEntryBits
entry_takes from x fits e =
    let v = bind_some (values_at value (shape_at xdr_item) entry_shapes from) (λ v. Some (entry_from v.0, v.1)) x e in
    let all = fields_take entry_shapes from v.0 fits v.1 in
    subst (λ (y : PtEntry × Reading). Takes from (entry_text xdr_text y.0) y.1 × (IsEntryText y.0 × HasEntryBits y.0))
    (given_is (entry_from v.0.0, v.0.1) x v.2)
    (all.takes, (all.bounded, all.bits))

-- the answer was read, and is of this kind
pub record Told (kind : AnswerKind) (old : Reading) (a : PtAnswer) (new : Reading) : Type 0 where
  pub takes : Takes old (answer_spelling a) new
  pub is : IsAnswer a
  pub kind_is : answer_kind a ≡ kind

answer_takes : (kind : AnswerKind) (from : Reading) (x : PtAnswer × Reading) → IsBytes from.rest → answer_at kind from ≡ Some x
    → Told kind from x.0 x.1
unfolding answer_at
answer_takes tells.Done from x fits e =
    subst (λ (y : PtAnswer × Reading). Told tells.Done from y.0 y.1) (given_is (answer.Done, from) x e)
    (record { takes = record { parts = refl; left = fits }; is = (tt, tt); kind_is = refl })
answer_takes tells.Id from x fits e =
    let v = bind_some (xdr_item item.Signed from) (λ v. Some (answer.Id v.0, v.1)) x e in
    let t = signed_takes from v.0 fits v.1 in
    subst (λ (y : PtAnswer × Reading). Told tells.Id from y.0 y.1) (given_is (answer.Id v.0.0, v.0.1) x v.2)
    (record { takes = t.0; is = (tt, t.1); kind_is = refl })
answer_takes tells.Ids from x fits e =
    let v = bind_some (list_at xdr_item 262143 (xdr_item item.Signed) from) (λ v. Some (answer.Ids v.0, v.1)) x e in
    let t = list_takes 262143 (xdr_item item.Signed) signed (FitsSigned w32) signed_takes from v.0 fits v.1 in
    subst (λ (y : PtAnswer × Reading). Told tells.Ids from y.0 y.1) (given_is (answer.Ids v.0.0, v.0.1) x v.2)
    (record { takes = t.0; is = (t.1, t.2); kind_is = refl })
answer_takes tells.Names from x fits e =
    let v = bind_some (list_at xdr_item 5000 (xdr_item item.Text) from) (λ v. Some (answer.Names v.0, v.1)) x e in
    let t = list_takes 5000 (xdr_item item.Text) opaque IsName text_takes from v.0 fits v.1 in
    subst (λ (y : PtAnswer × Reading). Told tells.Names from y.0 y.1) (given_is (answer.Names v.0.0, v.0.1) x v.2)
    (record { takes = t.0; is = ((t.1, t.2), tt); kind_is = refl })
answer_takes tells.Maxima from x fits e =
    let u = bind_some (xdr_item item.Signed from) (λ u. xdr_item item.Signed u.1 >>= λ g. Some (answer.Maxima u.0 g.0, g.1)) x e in
    let g = bind_some (xdr_item item.Signed u.0.1) (λ g. Some (answer.Maxima u.0.0 g.0, g.1)) x u.2 in
    let s = signed_takes from u.0 fits u.1 in
    let t = signed_takes u.0.1 g.0 s.0.left g.1 in
    let both = then_takes from u.0.1 g.0.1 (signed u.0.0) (signed g.0.0) s.0 t.0 in
    subst (λ (y : PtAnswer × Reading). Told tells.Maxima from y.0 y.1) (given_is (answer.Maxima u.0.0 g.0.0, g.0.1) x g.2)
    (record { takes = both; is = (tt, (s.1, t.1)); kind_is = refl })
answer_takes tells.Truth from x fits e =
    let v = bind_some (xdr_item item.Truth from) (λ v. Some (answer.Truth v.0, v.1)) x e in
    let t = truth_takes from v.0 fits v.1 in
    subst (λ (y : PtAnswer × Reading). Told tells.Truth from y.0 y.1) (given_is (answer.Truth v.0.0, v.0.1) x v.2)
    (record { takes = t; is = (tt, tt); kind_is = refl })
answer_takes tells.Entry from x fits e =
    let v = bind_some (entry_at from) (λ v. Some (answer.Entry v.0, v.1)) x e in
    let t = entry_takes from v.0 fits v.1 in
    subst (λ (y : PtAnswer × Reading). Told tells.Entry from y.0 y.1) (given_is (answer.Entry v.0.0, v.0.1) x v.2)
    (record { takes = t.0; is = t.1; kind_is = refl })
answer_takes tells.Entries from x fits e =
    let v = bind_some (list_at xdr_item 100 entry_at from) (λ v. Some (answer.Entries v.0, v.1)) x e in
    let t = list_takes 100 entry_at entry_spelling (λ x. IsEntryText x × HasEntryBits x) entry_takes from v.0 fits v.1 in
    subst (λ (y : PtAnswer × Reading). Told tells.Entries from y.0 y.1) (given_is (answer.Entries v.0.0, v.0.1) x v.2)
    (record {
      takes = t.0;
      is =
          ((t.1, first_all IsEntryText HasEntryBits v.0.0 t.2), second_all IsEntryText HasEntryBits v.0.0 t.2);
      kind_is = refl;
    })

pub read_alone : (kind : AnswerKind) (bytes : List ℕ) (a : PtAnswer) → IsBytes bytes → answer_of kind bytes ≡ Some a → IsAnswer a
    × (answer_kind a ≡ kind) × (bytes ≡ answer_spelling a)
unfolding answer_of
read_alone kind bytes a fits e =
    let w = whole_is (answer_at kind (at_start bytes)) a e in
    let t = answer_takes kind (at_start bytes) (a, w.0) fits w.1 in
    (t.is, t.kind_is, t.takes.parts ∙ ap (λ (r : List ℕ). answer_spelling a ++ r) w.2 ∙ append-nil (answer_spelling a))
