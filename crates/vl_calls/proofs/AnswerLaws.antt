-- An answer is read from its spelling, and from no other bytes.
use Rattle.std.proofs.Common.{◌≡◌, ℕ, List, [], ◌++◌, Some, refl, sym, ap, subst, ◌∙◌, arith}
use Rattle.std.proofs.lemmas.List.{append-nil}
use Rattle.xdr_base.specs.Reading.{Reading, at_start}
use Rattle.xdr_base.specs.Spelling.{word}
use Rattle.call_grammar.specs.Items as item
use Rattle.call_grammar.specs.Items.{xdr_text}
use Rattle.call_grammar.specs.Laws.{IsBytes}
use Rattle.call_grammar.specs.Reading.{list_at, xdr_item}
use Rattle.call_grammar.proofs.Again.{Again, ended, number_again, list_again}
use Rattle.call_grammar.proofs.Both.{both_all, first_all, second_all}
use Rattle.call_grammar.proofs.ItemsTaken.{Takes, number_takes}
use Rattle.call_grammar.proofs.Taken.{bind_some, given_is, list_takes, whole_is}
use Rattle.vl_calls.specs.declared.answers.AnswerKind.{AnswerKind}
use Rattle.vl_calls.specs.declared.answers.AnswerKind.TheVariants as tells
use Rattle.vl_calls.specs.declared.answers.VlAnswer.{VlAnswer}
use Rattle.vl_calls.specs.declared.answers.VlAnswer.TheVariants as answer
use Rattle.vl_calls.specs.Entries.{entry_at, entry_text, IsEntryText, EntryHasItsBits}
use Rattle.vl_calls.specs.Answers.{answer_kind, answer_spelling, IsAnswer, IsWord, answer_at, answer_of}
use Rattle.vl_calls.proofs.EntriesAgain.{entry_again}
use Rattle.vl_calls.proofs.EntriesTaken.{entry_takes}

answer_again : (a : VlAnswer) (from : Reading) (after : List ℕ) → IsAnswer a → from.rest ≡ answer_spelling a ++ after
    → Again (answer_at (answer_kind a) from) a after
unfolding answer_at
answer_again answer.Done from after fits e = record { behind = from; is = refl; rest = e }
answer_again (answer.Id id) from after fits e =
    let v = number_again id from after fits.1 e in
    record { behind = v.behind; is = rw v.is refl; rest = v.rest }
answer_again (answer.Entry entry) from after fits e =
    let v = entry_again entry from after fits e in
    record { behind = v.behind; is = rw v.is refl; rest = v.rest }
answer_again (answer.Entries es) from after fits e =
    let v = list_again 100 (omega arith) (entry_at xdr_item) (entry_text xdr_text)
    (λ x. IsEntryText x × EntryHasItsBits x) entry_again es from after fits.0.0
    (both_all IsEntryText EntryHasItsBits es fits.0.1 fits.1) e in
    record { behind = v.behind; is = rw v.is refl; rest = v.rest }
answer_again (answer.Hosts hosts) from after fits e =
    let v = list_again 255 (omega arith) (xdr_item item.Number) word IsWord number_again hosts from after fits.0 fits.1 e in
    record { behind = v.behind; is = rw v.is refl; rest = v.rest }

pub spelling_again : (a : VlAnswer) → IsAnswer a → answer_of (answer_kind a) (answer_spelling a) ≡ Some a
unfolding answer_of
spelling_again a fits =
    ended (answer_at (answer_kind a) (at_start (answer_spelling a))) a
    (answer_again a (at_start (answer_spelling a)) [] fits (sym (append-nil (answer_spelling a))))

-- the answer was read, and is of this kind
pub record Told (kind : AnswerKind) (old : Reading) (a : VlAnswer) (new : Reading) : Type 0 where
  pub takes : Takes old (answer_spelling a) new
  pub is : IsAnswer a
  pub kind_is : answer_kind a ≡ kind

answer_takes : (kind : AnswerKind) (from : Reading) (x : VlAnswer × Reading) → IsBytes from.rest → answer_at kind from ≡ Some x
    → Told kind from x.0 x.1
unfolding answer_at
answer_takes tells.Done from x fits e =
    subst (λ (y : VlAnswer × Reading). Told tells.Done from y.0 y.1) (given_is (answer.Done, from) x e)
    (record { takes = record { parts = refl; left = fits }; is = (tt, tt); kind_is = refl })
answer_takes tells.Id from x fits e =
    let v = bind_some (xdr_item item.Number from) (λ v. Some (answer.Id v.0, v.1)) x e in
    let t = number_takes from v.0 fits v.1 in
    subst (λ (y : VlAnswer × Reading). Told tells.Id from y.0 y.1) (given_is (answer.Id v.0.0, v.0.1) x v.2)
    (record { takes = t.0; is = (tt, t.1); kind_is = refl })
answer_takes tells.Entry from x fits e =
    let v = bind_some (entry_at xdr_item from) (λ v. Some (answer.Entry v.0, v.1)) x e in
    let t = entry_takes from v.0 fits v.1 in
    subst (λ (y : VlAnswer × Reading). Told tells.Entry from y.0 y.1) (given_is (answer.Entry v.0.0, v.0.1) x v.2)
    (record { takes = t.0; is = t.1; kind_is = refl })
answer_takes tells.Entries from x fits e =
    let v = bind_some (list_at xdr_item 100 (entry_at xdr_item) from) (λ v. Some (answer.Entries v.0, v.1)) x e in
    let t = list_takes 100 (entry_at xdr_item) (entry_text xdr_text)
    (λ x. IsEntryText x × EntryHasItsBits x) entry_takes from v.0 fits v.1 in
    subst (λ (y : VlAnswer × Reading). Told tells.Entries from y.0 y.1) (given_is (answer.Entries v.0.0, v.0.1) x v.2)
    (record {
      takes = t.0;
      is =
          ((t.1, first_all IsEntryText EntryHasItsBits v.0.0 t.2), second_all IsEntryText EntryHasItsBits v.0.0 t.2);
      kind_is = refl;
    })
answer_takes tells.Hosts from x fits e =
    let v = bind_some (list_at xdr_item 255 (xdr_item item.Number) from) (λ v. Some (answer.Hosts v.0, v.1)) x e in
    let t = list_takes 255 (xdr_item item.Number) word IsWord number_takes from v.0 fits v.1 in
    subst (λ (y : VlAnswer × Reading). Told tells.Hosts from y.0 y.1) (given_is (answer.Hosts v.0.0, v.0.1) x v.2)
    (record { takes = t.0; is = (t.1, t.2); kind_is = refl })

pub read_alone : (kind : AnswerKind) (bytes : List ℕ) (a : VlAnswer) → IsBytes bytes → answer_of kind bytes ≡ Some a → IsAnswer a
    × (answer_kind a ≡ kind) × (bytes ≡ answer_spelling a)
unfolding answer_of
read_alone kind bytes a fits e =
    let w = whole_is (answer_at kind (at_start bytes)) a e in
    let t = answer_takes kind (at_start bytes) (a, w.0) fits w.1 in
    (t.is, t.kind_is, t.takes.parts ∙ ap (λ (r : List ℕ). answer_spelling a ++ r) w.2 ∙ append-nil (answer_spelling a))
