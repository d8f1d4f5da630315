-- The incoming file is closed and emptied, or emptied alone.
use Rattle.std.proofs.Common.{◌≡◌, ⊎_elim, inr, ℕ, ◌-◌, Bool, true, false, cond, eqb, List, [], ◌∷◌, ◌++◌, length, take, drop, get_or, Option, Some, None, IfSome, sym, ap, subst, ◌∙◌, arith, length-take}
use Rattle.std.specs.Option.{option_map}
use Rattle.std.proofs.lemmas.Bool.Decides.{nat_tests}
use Rattle.std.proofs.lemmas.List.{append_assoc, get_or-append_right}
use Rattle.disk_base.specs.declared.disks.FileNo.TheVariants.{Incoming}
use Rattle.disk_base.specs.Files.{Files, laid}
use Rattle.disk_base.specs.Crash.{Torn, CutShort, InFile, Only, OnlyIn, IsSettled, LeavesOthers, After}
use Rattle.incoming_file.specs.Incoming.{IsIgnored, IsGateOpen, is_gated, clear_calls, with_incoming, HasIgnored, HasThisOrIgnored}
use Rattle.incoming_file.proofs.Opens.{front_ignored, front_shut, gate_there, shut_ignored, torn_gate}

-- one byte in the place of the gate
pub laid_one : (file : List ℕ) (byte : ℕ) → laid file 63 (byte ∷ []) ≡ take 63 file ++ byte ∷ drop 64 file
laid_one file byte = append_assoc (take 63 file) (byte ∷ []) (drop 64 file)

-- the byte of a closed gate
rest_begins : (xs : List ℕ) (n : ℕ) → n ≡ 0 → get_or (0 ∷ xs) n 0 ≡ 0
rest_begins xs n is = ap (λ (k : ℕ). get_or (0 ∷ xs) k 0) is

pub gate_zero : (file : List ℕ) → IsGateOpen file → get_or (laid file 63 (0 ∷ [])) 63 0 ≡ 0
gate_zero file opens =
    let there = gate_there file opens in
    ap (λ (xs : List ℕ). get_or xs 63 0) (laid_one file 0)
    ∙ get_or-append_right (take 63 file) (0 ∷ drop 64 file) 63 63 0 (omega (arith, there, length-take 63 file)) (omega arith)
    ∙ rest_begins (drop 64 file) (63 - 63) (omega arith)

-- what a write of the incoming file leaves is settled
pub settled_put : (change : List ℕ → List ℕ) (old new : Option Files) (before now : Files → Type 0) → IsSettled old before
    → new ≡ option_map (λ fs. with_incoming (change fs.incoming) fs) old
    → LeavesOthers Incoming before now → IfSome old (λ fs. OnlyIn Incoming (change fs.incoming) now) → IsSettled new now
unfolding LeavesOthers
settled_put change None new before now settled is others whole = let P : Option Files → Type 0 = λ o. IsSettled o now in subst P (sym is) tt
settled_put change (Some fs) new before now settled is others whole =
    let P : Option Files → Type 0 = λ o. IsSettled o now in
    subst P (sym is) (λ c here.
    let d = others.no_more c here in
    d.2 ∙ ap (with_incoming c.incoming) (settled d.0 d.1) ∙ ap (λ (xs : List ℕ). with_incoming xs fs) (whole c here))

-- while the gate is closed, the file is as it was or ignored
pub while_shut : (fs : Files) (before : Files → Type 0) → Only fs before → IsGateOpen fs.incoming → (c : Files)
    → After (InFile Incoming (Torn 63 1)) before c → HasThisOrIgnored fs.incoming fs c
while_shut fs before only opens c from =
    let is = only from.0 from.1 in
    let torn : Torn 63 1 fs.incoming c.incoming = subst (λ (d : Files). Torn 63 1 d.incoming c.incoming) is from.2.1 in
    (torn_gate fs.incoming c.incoming opens torn, from.2.0 ∙ ap (with_incoming c.incoming) is)

-- and while it is cut then
pub while_cut : (fs : Files) (before : Files → Type 0) → Only (with_incoming (laid fs.incoming 63 (0 ∷ [])) fs) before
    → IsGateOpen fs.incoming
    → (c : Files) → After (InFile Incoming (CutShort 0)) before c → HasThisOrIgnored fs.incoming fs c
while_cut fs before only opens c from =
    let is = only from.0 from.1 in
    let shut = laid fs.incoming 63 (0 ∷ []) in
    let cut : CutShort 0 shut c.incoming = subst (λ (d : Files). CutShort 0 d.incoming c.incoming) is from.2.1 in
    let zero = front_shut shut c.incoming (gate_zero fs.incoming opens) cut in
    (inr (shut_ignored c.incoming (λ there. omega (arith, zero, there))), from.2.0 ∙ ap (with_incoming c.incoming) is)

-- while a file is cut that is ignored
pub while_cleared : (fs : Files) (before : Files → Type 0) → Only fs before → IsIgnored fs.incoming → is_gated fs.incoming ≡ false
    → (c : Files) → After (InFile Incoming (CutShort 0)) before c → HasIgnored fs c
while_cleared fs before only ignored shut c from =
    let is = only from.0 from.1 in
    let cut : CutShort 0 fs.incoming c.incoming = subst (λ (d : Files). CutShort 0 d.incoming c.incoming) is from.2.1 in
    (front_ignored fs.incoming c.incoming ignored shut cut, from.2.0 ∙ ap (with_incoming c.incoming) is)

pub ignored_either : (fs c : Files) → IsIgnored fs.incoming → HasThisOrIgnored fs.incoming fs c → HasIgnored fs c
ignored_either fs c ignored (either, same) = (⊎_elim (λ is. subst IsIgnored (sym is) ignored) (λ none. none) either, same)

-- the files once the gate is closed, and the file is cut
pub emptied_files : (change : List ℕ → List ℕ) (old mid new : Option Files)
    → mid ≡ option_map (λ fs. with_incoming (change fs.incoming) fs) old
    → new ≡ option_map (with_incoming []) mid → new ≡ option_map (with_incoming []) old
emptied_files change None mid new a b = b ∙ ap (option_map (with_incoming [])) a
emptied_files change (Some fs) mid new a b = b ∙ ap (option_map (with_incoming [])) a

-- the gate stands open past the longest file
pub gated_open : (file : List ℕ) → is_gated file ≡ true → IsGateOpen file
gated_open file is = grind (arith, nat_tests)

-- how many calls
pub clear_none : (file : List ℕ) → length file ≡ 0 → clear_calls file ≡ 0
clear_none file none =
    let is : eqb (length file) 0 ≡ true = grind (arith, nat_tests) in ap (λ (b : Bool). cond b 0 (cond (is_gated file) 4 2)) is

pub clear_some : (file : List ℕ) (gated : Bool) → ¬ (length file ≡ 0) → gated ≡ is_gated file → clear_calls file ≡ cond gated 4 2
clear_some file gated some is =
    let no : eqb (length file) 0 ≡ false = grind (arith, nat_tests) in
    ap (λ (b : Bool). cond b 0 (cond (is_gated file) 4 2)) no ∙ ap (λ (b : Bool). cond b 4 2) (sym is)
