use Rattle.std.proofs.Common.{◌≡◌, refl, map, get_or, string_bytes}
use Rattle.std.proofs.lemmas.Result.{err_from_is_err_and}
use Rattle.afs_words.proofs.Giving.{given_unknown, given_ambiguous, given_fault, given_well}
use Rattle.afs_words.proofs.switches.Switches.give.Goals as goal

pub returns-in_err-values-in-Item : goal.returns-in_err-values-in-Item
returns-in_err-values-in-Item c =
    let p = err_from_is_err_and c.from_residual-in_err-values-in-Item.result c.from_residual-in_err-values-in-Item.ensures.1 in
    let is : c.index-slot.result.now ≡ get_or c.args.self.now c.in-Item.place c.index-slot.result.now = cc in
    rw (p.1, p.2) (given_fault c.args.self.now c.as_slice.result.now c.args.word.now c.behind_mark.result.now
    (map string_bytes c.args.words.now) c.in-Item.place c.index-slot.result.now c.in_err-values-in-Item.field-0.0
    c.as_slice.ensures (cc) c.in-Item.ensures.meaning (c.in-Item.ensures.bound c.in-Item.place refl) is c.in_err-values-in-Item.ensures)

pub returns-in_ok-of-in-Unknown : goal.returns-in_ok-of-in-Unknown
returns-in_ok-of-in-Unknown c =
    given_unknown c.args.self.now c.as_slice.result.now c.args.word.now c.behind_mark.result.now c.in_ok-of-in-Unknown.field-0
    (map string_bytes c.args.words.now) c.as_slice.ensures (cc) c.in_ok-of-in-Unknown.ensures c.in-Unknown.ensures.meaning

pub returns-in_ok-of-in-Ambiguous : goal.returns-in_ok-of-in-Ambiguous
returns-in_ok-of-in-Ambiguous c =
    given_ambiguous c.args.self.now c.as_slice.result.now c.args.word.now c.behind_mark.result.now c.in_ok-of-in-Ambiguous.field-0
    (map string_bytes c.args.words.now) c.as_slice.ensures (cc) c.in_ok-of-in-Ambiguous.ensures c.in-Ambiguous.ensures.meaning

pub returns-in_ok-values-in-Item : goal.returns-in_ok-values-in-Item
returns-in_ok-values-in-Item c =
    let is : c.index-slot.result.now ≡ get_or c.args.self.now c.in-Item.place c.index-slot.result.now = cc in
    given_well c.args.self.now c.as_slice.result.now c.self.inside.list.items c.args.word.now c.behind_mark.result.now
    (map string_bytes c.args.words.now) c.in_ok-values-in-Item.values c.in-Item.place c.index-slot.result.now
    c.as_slice.ensures (cc) (cc) c.in-Item.ensures.meaning (c.in-Item.ensures.bound c.in-Item.place refl) is c.in_ok-values-in-Item.ensures
