use Rattle.std.proofs.Common.{◌≡◌, ℕ, List, [], ◌++◌, Result, Ok, Err, sym, ap, ◌∙◌, append_assoc}
use Rattle.std.specs.Result.{OnOk}
use Rattle.std.proofs.lemmas.List.{append-nil}
use Rattle.xdr_base.specs.Spelling.{word, signed}
use Rattle.call_grammar.specs.Items.{xdr_text}
use Rattle.vl_calls.specs.Entries.{given_text, IsGiven}
use Rattle.vl_calls.proofs.writing.put_fields.Goals as goal

on_ok : {T E : Type 0} (r : Result T E) (new x y : List ℕ) → x ≡ y → OnOk r (new ≡ x) → OnOk r (new ≡ y)
on_ok (Ok t) new x y e h = h ∙ e
on_ok (Err d) new x y e h = tt

regroup : (old a b g m : List ℕ) → ((old ++ (a ++ (b ++ []))) ++ g) ++ m ≡ old ++ (a ++ (b ++ (g ++ m)))
regroup old a b g m = simp (append_assoc, append-nil)

joined : (old one two a b g m : List ℕ) → one ≡ old ++ (a ++ (b ++ [])) → two ≡ one ++ g → two ++ m ≡ old ++ (a ++ (b ++ (g ++ m)))
joined old one two a b g m e f = ap (λ (x : List ℕ). x ++ m) (f ∙ ap (λ (x : List ℕ). x ++ g) e) ∙ regroup old a b g m

pub put_given-requires : goal.put_given-requires
put_given-requires c = let h : IsGiven c.in-CreateEntry.entry × Unit {0} = rw c.in-CreateEntry.is at c.requires in h.0

pub put-requires-in-GetEntryByName : goal.put-requires-in-GetEntryByName
put-requires-in-GetEntryByName c = rw c.in-GetEntryByName.is at c.requires

pub put_given-requires-in-ReplaceEntry : goal.put_given-requires-in-ReplaceEntry
put_given-requires-in-ReplaceEntry c =
    let h : Unit {0} × (Unit {0}
    × (IsGiven c.in-ReplaceEntry.entry × (Unit {0} × Unit {0}))) = rw c.in-ReplaceEntry.is at c.requires in h.1.1.0

pub returns-in-CreateEntry : goal.returns-in-CreateEntry
returns-in-CreateEntry c =
    let text = given_text xdr_text c.in-CreateEntry.entry in
    rw c.in-CreateEntry.is
    (on_ok c.put_given.result c.put_given.new.out (c.args.out.now ++ text) (c.args.out.now ++ (text ++ []))
    (ap (λ (x : List ℕ). c.args.out.now ++ x) (sym (append-nil text))) c.put_given.ensures)

pub returns-in_ok-put_given-in-ReplaceEntry : goal.returns-in_ok-put_given-in-ReplaceEntry
returns-in_ok-put_given-in-ReplaceEntry c =
    let r = c.in-ReplaceEntry in
    let two = c.put_given-in-ReplaceEntry.new.out in
    let behind = word r.mask ++ [] in
    let text = given_text xdr_text r.entry in
    rw r.is
    (on_ok c.put-in-ReplaceEntry-2.result c.put-in-ReplaceEntry-2.new.out (two ++ behind)
    (c.args.out.now ++ (word r.id ++ (signed r.volume_type ++ (text ++ behind))))
    (joined c.args.out.now c.put-in-ReplaceEntry.new.out two (word r.id)
    (signed r.volume_type) text behind c.in_ok-put-in-ReplaceEntry.ensures c.in_ok-put_given-in-ReplaceEntry.ensures)
    c.put-in-ReplaceEntry-2.ensures)

pub returns-in-GetNewVolumeId : goal.returns-in-GetNewVolumeId
returns-in-GetNewVolumeId c = rw c.in-GetNewVolumeId.is c.put.ensures

pub returns-in-DeleteEntry : goal.returns-in-DeleteEntry
returns-in-DeleteEntry c = rw c.in-DeleteEntry.is c.put-in-DeleteEntry.ensures

pub returns-in-GetEntryById : goal.returns-in-GetEntryById
returns-in-GetEntryById c = rw c.in-GetEntryById.is c.put-in-GetEntryById.ensures

pub returns-in-GetEntryByName : goal.returns-in-GetEntryByName
returns-in-GetEntryByName c = rw c.in-GetEntryByName.is c.put-in-GetEntryByName.ensures

pub returns-in-SetLock : goal.returns-in-SetLock
returns-in-SetLock c = rw c.in-SetLock.is c.put-in-SetLock.ensures

pub returns-in-ReleaseLock : goal.returns-in-ReleaseLock
returns-in-ReleaseLock c = rw c.in-ReleaseLock.is c.put-in-ReleaseLock.ensures

pub returns-in-ListAttributes : goal.returns-in-ListAttributes
returns-in-ListAttributes c = rw c.in-ListAttributes.is c.put-in-ListAttributes.ensures

pub returns-in-ChangeAddr : goal.returns-in-ChangeAddr
returns-in-ChangeAddr c = rw c.in-ChangeAddr.is c.put-in-ChangeAddr.ensures
