-- Calls that have a spelling, and how long it is.
use Rattle.std.proofs.Common.{◌≡◌, ℕ, ℤ, ◌+◌, ◌*◌, ◌≤◌, Bool, true, false, ◌&&◌, List, [], ◌∷◌, ◌++◌, length, arith, refl}
use Rattle.std.specs.List.{AllByRecursion, flat_map, list_all}
use Rattle.std.proofs.lemmas.Bool.{leb-true}
use Rattle.std.proofs.lemmas.List.{length-append}
use Rattle.xdr_base.specs.Spelling.{opaque, signed, word}
use Rattle.call_grammar.specs.Items.{xdr_text}
use Rattle.call_grammar.specs.Lists.{listed}
use Rattle.call_grammar.proofs.Lengths.{opaque_len}
use Rattle.pt_calls.specs.Calls.{HasSpelling, spelling}
use Rattle.pt_calls.specs.Shapes.{IsName}
use Rattle.pt_calls.specs.declared.calls.PtCall.{PtCall}
use Rattle.pt_calls.specs.declared.calls.PtCall.TheVariants as call
use Rattle.pts_tool.specs.Asking.{has_spelling, is_short}

and_left : (a b : Bool) → (a && b) ≡ true → a ≡ true
and_left true b is = refl
and_left false b is = cc

and_right : (a b : Bool) → (a && b) ≡ true → b ≡ true
and_right true b is = is
and_right false b is = cc

all_short : (names : List (List ℕ)) → list_all is_short names ≡ true → AllByRecursion IsName names
all_short [] is = tt
all_short (name ∷ names) is = (
  leb-true _ _ (and_left (is_short name) (list_all is_short names) is),
  all_short names
      (and_right (is_short name) (list_all is_short names) is),
)

-- what is tested of a call is that it has a spelling
pub is_spelled : (c : PtCall) → has_spelling c ≡ true → HasSpelling c
is_spelled (call.NewEntry name kind owner) is = (leb-true _ _ is, (tt, (tt, tt)))
is_spelled (call.INewEntry name id owner) is = (leb-true _ _ is, (tt, (tt, tt)))
is_spelled (call.NameToId names) is = ((leb-true _ _ (and_left _ _ is), all_short names (and_right _ _ is)), tt)
is_spelled (call.IdToName ids) is = (leb-true _ _ is, tt)
is_spelled (call.Delete id) is = (tt, tt)
is_spelled (call.AddToGroup member group) is = (tt, (tt, tt))
is_spelled (call.RemoveFromGroup member group) is = (tt, (tt, tt))
is_spelled (call.GetCps id) is = (tt, tt)
is_spelled call.ListMax is = tt
is_spelled (call.SetMax id is_group) is = (tt, (tt, tt))
is_spelled (call.ListEntry id) is = (tt, tt)
is_spelled (call.ListEntries which after) is = (tt, (tt, tt))
is_spelled (call.ChangeEntry id name owner new_id) is = (tt, (leb-true _ _ is, (tt, (tt, tt))))
is_spelled (call.SetFields id mask flags quota) is = (tt, (tt, (tt, (tt, tt))))
is_spelled (call.ListElements id) is = (tt, tt)
is_spelled (call.IsMemberOf member group) is = (tt, (tt, tt))
is_spelled (call.ListOwned id) is = (tt, tt)

names_len : (names : List (List ℕ)) → AllByRecursion IsName names → length (flat_map opaque names) ≤ 262 * length names
names_len [] is = omega arith
names_len (name ∷ names) is =
    let first = opaque_len name in
    let short = is.0 in
    let rest = names_len names is.1 in
    omega (arith, length-append (opaque name) (flat_map opaque names), first, short, rest)

ids_len : (ids : List ℤ) → length (flat_map signed ids) ≤ 4 * length ids
ids_len [] = omega arith
ids_len (id ∷ ids) =
    let rest = ids_len ids in
    omega (arith, length-append (signed id) (flat_map signed ids), rest)

pub spelling_len : (c : PtCall) → HasSpelling c → length (spelling c) ≤ 2097140
spelling_len (call.NewEntry name kind owner) is =
    let behind : List ℕ = word kind ++ (signed owner ++ []) in
    let short = is.0 in
    omega (arith, length-append (word 1) (opaque name ++ behind), length-append (opaque name) behind, opaque_len name, short)
spelling_len (call.INewEntry name id owner) is =
    let behind : List ℕ = signed id ++ (signed owner ++ []) in
    let short = is.0 in
    omega (arith, length-append (word 2) (opaque name ++ behind), length-append (opaque name) behind, opaque_len name, short)
spelling_len (call.NameToId names) is =
    let few = is.0.0 in
    let some = names_len names is.0.1 in
    omega (
      arith,
      length-append (word 3) (listed xdr_text opaque names ++ []),
      length-append (listed xdr_text opaque names) [],
      length-append (word (length names)) (flat_map opaque names),
      few,
      some,
    )
spelling_len (call.IdToName ids) is =
    let few = is.0 in
    let some = ids_len ids in
    omega (
      arith,
      length-append (word 4) (listed xdr_text signed ids ++ []),
      length-append (listed xdr_text signed ids) [],
      length-append (word (length ids)) (flat_map signed ids),
      few,
      some,
    )
spelling_len (call.Delete id) is = omega arith
spelling_len (call.AddToGroup member group) is = omega arith
spelling_len (call.RemoveFromGroup member group) is = omega arith
spelling_len (call.GetCps id) is = omega arith
spelling_len call.ListMax is = omega arith
spelling_len (call.SetMax id is_group) is = omega arith
spelling_len (call.ListEntry id) is = omega arith
spelling_len (call.ListEntries which after) is = omega arith
spelling_len (call.ChangeEntry id name owner new_id) is =
    let behind : List ℕ = signed owner ++ (signed new_id ++ []) in
    let short = is.1.0 in
    omega (
      arith,
      length-append (word 13) (signed id ++ (opaque name ++ behind)),
      length-append (signed id) (opaque name ++ behind),
      length-append (opaque name) behind,
      opaque_len name,
      short,
    )
spelling_len (call.SetFields id mask flags quota) is = omega arith
spelling_len (call.ListElements id) is = omega arith
spelling_len (call.IsMemberOf member group) is = omega arith
spelling_len (call.ListOwned id) is = omega arith
