-- What a crash leaves while a file is kept in the empty incoming file.
use Rattle.std.proofs.Common.{◌≡◌, ◌≤◌, ◌⊎◌, inl, inr, ℕ, ◌+◌, ◌-◌, eqb, Bool, true, false, List, [], ◌∷◌, ◌++◌, length, take, drop, get_or, replicate, Option, Some, None, IfSome, refl, sym, ap, subst, ◌∙◌, arith, length-take, length-drop}
use Rattle.std.specs.Option.{option_map}
use Rattle.std.proofs.lemmas.Bool.{false≢true}
use Rattle.std.proofs.lemmas.Bool.Decides.{nat_tests}
use Rattle.std.proofs.lemmas.List.{append-nil, drop_all, take-append-drop, take-append-le, get_or-drop}
use Rattle.ubik_types.specs.declared.versions.Version.{Version}
use Rattle.disk_base.specs.declared.disks.FileNo.TheVariants.{Incoming}
use Rattle.disk_base.specs.Files.{Files, laid}
use Rattle.disk_base.specs.Crash.{Torn, InFile, Only, After}
use Rattle.incoming_file.specs.Incoming.{label_front, IsIncoming, IsIgnored, shut, opened, with_incoming, HasIgnored, HasThisOrIgnored}
use Rattle.incoming_file.specs.Reading.{IsText}
use Rattle.incoming_file.proofs.Opens.{short_ignored, shut_ignored, split_at}
use Rattle.incoming_file.proofs.Shutting.{laid_one}

-- a label and an image with an open gate
pub kept_is_open : (text : List ℕ) (version : Version) → IsText text version → IsIncoming (opened text) version (drop 64 text)
kept_is_open text version is = record {
  is_version = is.is_version;
  fits = omega (arith, is.fits, length-drop 64 text);
  bytes = ap (λ (xs : List ℕ). xs ++ 101 ∷ drop 64 text) (sym (front_of text is.long) ∙ ap (take 63) is.labelled);
}
  where
    front_of : (text : List ℕ) → 64 ≤ length text → take 63 (take 64 text) ≡ take 63 text
    front_of text long =
        sym (take-append-le 63 (take 64 text) (drop 64 text) (omega (arith, long, length-take 64 text)))
        ∙ ap (take 63) (take-append-drop 64 text)

-- zero bytes over nothing
pub written_first : (file : List ℕ) → file ≡ [] → laid file 0 (replicate 63 0) ≡ replicate 63 0
written_first file empty =
    ap (λ (xs : List ℕ). laid xs 0 (replicate 63 0)) empty

-- and the rest behind them
pub written_rest : (text : List ℕ) → laid (replicate 63 0) 63 (drop 63 text) ≡ shut text
written_rest text =
    let zeros : List ℕ = replicate 63 0 in
    ap (λ (xs : List ℕ). zeros ++ drop 63 text ++ xs) (drop_all (63 + length (drop 63 text)) zeros (omega arith))
    ∙ ap (λ (xs : List ℕ). zeros ++ xs) (append-nil (drop 63 text))

-- and the rest of the label over them
pub written_label : (text : List ℕ) → 63 ≤ length text → laid (shut text) 0 (take 63 text) ≡ text
written_label text long =
    ap (λ (n : ℕ). take 63 text ++ drop n (shut text)) (length-front text long) ∙ take-append-drop 63 text
  where
    length-front : (text : List ℕ) → 63 ≤ length text → 0 + length (take 63 text) ≡ 63
    length-front text long = omega (arith, long, length-take 63 text)

-- a file with zero bytes in front is ignored
zeros_ignored : (file : List ℕ) → take 63 file ≡ replicate 63 0 → IsIgnored file
zeros_ignored file zeros v image opens =
    let front : label_front v ≡ replicate 63 0 = sym (ap (take 63) opens.bytes) ∙ zeros in
    let no : 53 ≡ 0 = ap (λ (xs : List ℕ). get_or xs 1 0) front in
    omega (arith, no)

module _ (fs : Files) (before : Files → Type 0) where
  -- while the zero bytes are written
  pub while_zeros : Only fs before → fs.incoming ≡ [] → (c : Files) → After (InFile Incoming (Torn 0 63)) before c → HasIgnored fs c
  while_zeros only empty c from =
      let is = only from.0 from.1 in
      let torn : Torn 0 63 fs.incoming c.incoming = subst (λ (d : Files). Torn 0 63 d.incoming c.incoming) is from.2.1 in
      let none : length fs.incoming ≡ 0 = ap length empty in
      (short_ignored c.incoming (omega (arith, torn.no_longer, none)), from.2.0 ∙ ap (with_incoming c.incoming) is)

  -- while the rest is written
  pub while_rest : (n : ℕ) → Only (with_incoming (replicate 63 0) fs) before → (c : Files) → After (InFile Incoming (Torn 63 n)) before c
      → HasIgnored fs c
  while_rest n only c from =
      let is = only from.0 from.1 in
      let torn : Torn 63 n (replicate 63 0) c.incoming = subst (λ (d : Files). Torn 63 n d.incoming c.incoming) is from.2.1 in
      (zeros_ignored c.incoming torn.before, from.2.0 ∙ ap (with_incoming c.incoming) is)

  -- while the label is written
  pub while_label : (text : List ℕ) (n : ℕ) → n ≤ 63 → get_or text 63 0 ≡ 0 → Only (with_incoming (shut text) fs) before
      → (c : Files) → After (InFile Incoming (Torn 0 n)) before c → HasIgnored fs c
  while_label text n few zero only c from =
      let is = only from.0 from.1 in
      let torn : Torn 0 n (shut text) c.incoming = subst (λ (d : Files). Torn 0 n d.incoming c.incoming) is from.2.1 in
      let gate : get_or c.incoming 63 0 ≡ 0 = gate_behind (shut text) c.incoming n few torn ∙ gate_of text ∙ zero in
      (shut_ignored c.incoming (λ there. omega (arith, gate, there)), from.2.0 ∙ ap (with_incoming c.incoming) is)
    where
      gate_behind : (file c : List ℕ) (n : ℕ) → n ≤ 63 → Torn 0 n file c → get_or c 63 0 ≡ get_or file 63 0
      gate_behind file c n few torn =
          let there : (0 + n) + (63 - n) ≡ 63 = omega arith in
          sym (ap (λ (k : ℕ). get_or c k 0) there) ∙ sym (get_or-drop (0 + n) c (63 - n) 0)
          ∙ ap (λ (xs : List ℕ). get_or xs (63 - n) 0) torn.after
          ∙ get_or-drop (0 + n) file (63 - n) 0 ∙ ap (λ (k : ℕ). get_or file k 0) there

      gate_of : (text : List ℕ) → get_or (shut text) 63 0 ≡ get_or text 63 0
      gate_of text = get_or-drop 63 text 0 0

  -- while the gate is opened
  pub while_opened : (text : List ℕ) → 64 ≤ length text → Only (with_incoming text fs) before → (c : Files)
      → After (InFile Incoming (Torn 63 1)) before c → HasThisOrIgnored (opened text) fs c
  while_opened text long only c from =
      let is = only from.0 from.1 in
      let torn : Torn 63 1 text c.incoming = subst (λ (d : Files). Torn 63 1 d.incoming c.incoming) is from.2.1 in
      (by (eqb (get_or c.incoming 63 0) 101) refl torn, from.2.0 ∙ ap (with_incoming c.incoming) is)
    where
      by : (b : Bool) → eqb (get_or c.incoming 63 0) 101 ≡ b → Torn 63 1 text c.incoming → (c.incoming ≡ opened text) ⊎ IsIgnored c.incoming
      by true opens torn =
          let gate : get_or c.incoming 63 0 ≡ 101 = grind (arith, nat_tests) in
          inl (split_at c.incoming 63 (omega (arith, long, torn.no_shorter))
          ∙ ap (λ (xs : List ℕ). xs ++ get_or c.incoming 63 0 ∷ drop 64 c.incoming) torn.before
          ∙ ap (λ (k : ℕ). take 63 text ++ k ∷ drop 64 c.incoming) gate ∙ ap (λ (xs : List ℕ). take 63 text ++ 101 ∷ xs) torn.after)
      by false other torn =
          inr (shut_ignored c.incoming
          (λ there. let no : eqb (get_or c.incoming 63 0) 101 ≡ true = grind (arith, nat_tests) in false≢true (sym other ∙ no)))

-- what was ignored is this one or ignored
pub or_ignored : (file : List ℕ) (fs c : Files) → HasIgnored fs c → HasThisOrIgnored file fs c
or_ignored file fs c (ignored, same) = (inr ignored, same)

-- ---- the files after such a write

pub put_files : (after before : List ℕ) (at : ℕ) (bytes : List ℕ) (old mid new : Option Files) → laid before at bytes ≡ after
    → mid ≡ option_map (with_incoming before) old → new ≡ option_map (λ fs. with_incoming (laid fs.incoming at bytes) fs) mid
    → new ≡ option_map (with_incoming after) old
put_files after before at bytes None mid new is a b = b ∙ ap (option_map (λ fs. with_incoming (laid fs.incoming at bytes) fs)) a
put_files after before at bytes (Some fs) mid new is a b =
    b ∙ ap (option_map (λ fs. with_incoming (laid fs.incoming at bytes) fs)) a ∙ ap (λ (xs : List ℕ). Some (with_incoming xs fs)) is

pub zeros_there : (old mid : Option Files) → IfSome old (λ fs. fs.incoming ≡ [])
    → mid ≡ option_map (λ fs. with_incoming (laid fs.incoming 0 (replicate 63 0)) fs) old
    → mid ≡ option_map (with_incoming (replicate 63 0)) old
zeros_there None mid empty is = is
zeros_there (Some fs) mid empty is = is ∙ ap (λ (xs : List ℕ). Some (with_incoming xs fs)) (written_first fs.incoming empty)

pub text_long : (text : List ℕ) (old mid : Option Files) → 63 ≤ length text → mid ≡ option_map (with_incoming text) old
    → IfSome mid (λ fs. 63 ≤ length fs.incoming)
text_long text None mid long is = let P : Option Files → Type 0 = λ o. IfSome o (λ fs. 63 ≤ length fs.incoming) in subst P (sym is) tt
text_long text (Some fs) mid long is =
    let P : Option Files → Type 0 = λ o. IfSome o (λ fs. 63 ≤ length fs.incoming) in subst P (sym is) long

pub zeros_long : (old mid : Option Files) → IfSome old (λ fs. fs.incoming ≡ [])
    → mid ≡ option_map (λ fs. with_incoming (laid fs.incoming 0 (replicate 63 0)) fs) old
    → IfSome mid (λ fs. 63 ≤ length fs.incoming)
zeros_long old mid empty is = text_long (replicate 63 0) old mid (omega arith) (zeros_there old mid empty is)

-- ---- what is written, as a part of the text

pub rest_written : (text rest : List ℕ) → rest ≡ drop 63 text → laid (replicate 63 0) 63 rest ≡ shut text
rest_written text rest is = ap (λ (xs : List ℕ). laid (replicate 63 0) 63 xs) is ∙ written_rest text

pub label_written : (text front : List ℕ) → front ≡ take 63 text → 63 ≤ length text → laid (shut text) 0 front ≡ text
label_written text front is long = ap (λ (xs : List ℕ). laid (shut text) 0 xs) is ∙ written_label text long

pub front_short : (text front : List ℕ) → front ≡ take 63 text → length front ≤ 63
front_short text front is = let long : length front ≡ length (take 63 text) = ap length is in omega (arith, long, length-take 63 text)

pub opened_is : (text : List ℕ) → laid text 63 (101 ∷ []) ≡ opened text
opened_is text = laid_one text 101
