-- How long answers are.
use Rattle.std.proofs.Common.{◌≡◌, ℤ, ◌≤◌, List, [], ◌∷◌, ◌++◌, length, ap, arith}
use Rattle.std.specs.List.{AllByRecursion}
use Rattle.std.proofs.lemmas.List.{length-append}
use Rattle.xdr_base.specs.Spelling.{opaque, signed, word}
use Rattle.call_grammar.specs.Items.{xdr_text}
use Rattle.call_grammar.specs.Lists.{listed}
use Rattle.call_grammar.proofs.Lengths.{listed_len, opaque_len}
use Rattle.pt_calls.specs.Answers.{IsEntryText, entry_spelling, entry_text}
use Rattle.pt_calls.specs.declared.answers.PtEntry.{PtEntry}
use Rattle.pt_calls.proofs.Steps.{ids_len}
use Rattle.pt_looks.specs.Pages.{HasShortName}

pub ids_short : (xs ids : List ℤ) → xs ≡ ids → length ids ≤ 262143 → (length xs ≤ 262143) × (length (listed xdr_text signed xs) ≤ 1048576)
ids_short xs ids same few = (omega (arith, ap length same, few), omega (arith, ids_len xs, ap length same, few))

pub is_entry_text : (e : PtEntry) → HasShortName e → IsEntryText e
unfolding IsEntryText
is_entry_text e short = (tt, (tt, (tt, (tt, (tt, (tt, (omega (arith, short), tt)))))))

pub entry_len : (e : PtEntry) → HasShortName e → length (entry_spelling e) ≤ 94
unfolding entry_text
entry_len e short =
    let name = opaque e.name ++ [] in
    let count = word e.count ++ name in
    let quota = signed e.quota ++ count in
    let creator = signed e.creator ++ quota in
    let owner = signed e.owner ++ creator in
    let id = signed e.id ++ owner in
    omega (
      arith,
      short,
      opaque_len e.name,
      length-append (word e.flags) id,
      length-append (signed e.id) owner,
      length-append (signed e.owner) creator,
      length-append (signed e.creator) quota,
      length-append (signed e.quota) count,
      length-append (word e.count) name,
      length-append (opaque e.name) [],
    )

pub entries_text : (es : List PtEntry) → AllByRecursion HasShortName es → AllByRecursion IsEntryText es
entries_text [] all = tt
entries_text (e ∷ es) all = (is_entry_text e all.0, entries_text es all.1)

entries_small : (es : List PtEntry) → AllByRecursion HasShortName es → AllByRecursion (λ e. length (entry_spelling e) ≤ 94) es
entries_small [] all = tt
entries_small (e ∷ es) all = (entry_len e all.0, entries_small es all.1)

pub entries_len : (es : List PtEntry) → AllByRecursion HasShortName es → length es ≤ 100
    → length (listed xdr_text entry_spelling es) ≤ 1048576
entries_len es all count = omega (arith, count, listed_len entry_spelling 94 es (entries_small es all))
