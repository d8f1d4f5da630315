-- Which bytes are an open incoming file, and what a crash leaves of one.
use Rattle.std.proofs.Common.{◌≡◌, ◌<◌, ◌≤◌, ◌⊎◌, inl, inr, ℕ, ◌+◌, eqb, ltb, ◌&&◌, Bool, true, false, List, [], ◌∷◌, ◌++◌, length, take, drop, get_or, Some, refl, sym, ap, subst, ◌∙◌, arith, length-take, length-drop, get_or-take}
use Rattle.std.proofs.lemmas.Bool.{cases_lt, false≢true}
use Rattle.std.proofs.lemmas.Bool.Decides.{nat_tests}
use Rattle.std.proofs.lemmas.List.{take-append-drop, take-append-le, drop_more, get_or_past}
use Rattle.ubik_types.specs.declared.versions.Version.{Version}
use Rattle.ubik_types.specs.Version.{IsVersion}
use Rattle.disk_base.specs.Crash.{Torn, CutShort}
use Rattle.page_file.specs.declared.label.TheConstants.{MAX_DATABASE_LEN}
use Rattle.page_file.specs.Label.{label, version_of_label}
use Rattle.page_file.proofs.Labels.{version_of_label_again}
use Rattle.incoming_file.specs.Incoming.{label_front, IsIncoming, IsIgnored, IsGateOpen, is_gated}

-- the first 64 bytes of an open one, and the image behind them
pub head_open : (file : List ℕ) (v : Version) (image : List ℕ) → IsIncoming file v image → take 64 file ≡ label_front v ++ 101 ∷ []
head_open file v image opens = ap (take 64) opens.bytes

pub image_open : (file : List ℕ) (v : Version) (image : List ℕ) → IsIncoming file v image → drop 64 file ≡ image
image_open file v image opens = ap (drop 64) opens.bytes

pub long_open : (file : List ℕ) (v : Version) (image : List ℕ) → IsIncoming file v image → length file ≡ 64 + length image
long_open file v image opens = let is : length file ≡ length (label_front v ++ 101 ∷ image) = ap length opens.bytes in omega (arith, is)

pub gate_open : (file : List ℕ) (v : Version) (image : List ℕ) → IsIncoming file v image → IsGateOpen file
gate_open file v image opens = ap (λ (xs : List ℕ). get_or xs 63 0) opens.bytes

-- a file with such a head is open, where it is not too long
pub open_by_head : (file : List ℕ) (v : Version) → IsVersion v → take 64 file ≡ label_front v ++ 101 ∷ []
    → length file ≤ MAX_DATABASE_LEN → IsIncoming file v (drop 64 file)
open_by_head file v is head fits = record {
  is_version = is;
  fits = omega (arith, fits, length-drop 64 file);
  bytes = sym (take-append-drop 64 file) ∙ ap (λ (xs : List ℕ). xs ++ drop 64 file) head;
}

-- a short file is ignored
pub short_ignored : (file : List ℕ) → length file < 64 → IsIgnored file
short_ignored file short v image opens = let long = long_open file v image opens in omega (arith, short, long)

pub empty_ignored : (file : List ℕ) → file ≡ [] → IsIgnored file
empty_ignored file none = short_ignored file (let long : length file ≡ 0 = ap length none in omega (arith, long))

-- and one whose gate is not open
pub shut_ignored : (file : List ℕ) → ¬ IsGateOpen file → IsIgnored file
shut_ignored file shut v image opens = shut (gate_open file v image opens)

-- a file is open in one way
pub open_once : (file : List ℕ) (v w : Version) (a b : List ℕ) → IsIncoming file v a → IsIncoming file w b → (v ≡ w) × (a ≡ b)
open_once file v w a b one two =
    let heads : label_front v ++ 101 ∷ [] ≡ label_front w ++ 101 ∷ [] = sym (head_open file v a one) ∙ head_open file w b two in
    let labels : label v ≡ label w = ap (λ (xs : List ℕ). take 63 xs ++ 0 ∷ []) heads in
    let same : Some v ≡ Some w =
    sym (version_of_label_again v (omega (arith, one.is_version.epoch)) (omega (arith, one.is_version.counter)))
    ∙ ap version_of_label labels
    ∙ version_of_label_again w (omega (arith, two.is_version.epoch)) (omega (arith, two.is_version.counter)) in
    (cc, sym (image_open file v a one) ∙ image_open file w b two)

-- a list by its front, one of its items and what is behind that
pub split_at : (xs : List ℕ) (n : ℕ) → n < length xs → xs ≡ take n xs ++ get_or xs n 0 ∷ drop (n + 1) xs
split_at xs n below = sym (take-append-drop n xs) ∙ ap (λ (ys : List ℕ). take n xs ++ ys) (drop_more xs n 0 below)

-- a file that has a gate is as long
pub gate_there : (file : List ℕ) → IsGateOpen file → 63 < length file
gate_there file opens = elim (cases_lt 63 (length file)) [
  | inl below ↦ below
  | inr beyond ↦ let none : get_or file 63 0 ≡ 0 = get_or_past file 63 0 beyond in omega (arith, opens, none)
]

-- with another byte at its gate, or none
torn_gate_by : (b : Bool) (file c : List ℕ) → eqb (get_or c 63 0) 101 ≡ b → IsGateOpen file → Torn 63 1 file c → (c ≡ file) ⊎ IsIgnored c
torn_gate_by true file c is opens torn =
    let gate : get_or c 63 0 ≡ 101 = grind (arith, nat_tests) in
    let there = gate_there file opens in
    let long : 63 < length c = omega (arith, there, torn.no_shorter) in
    inl (split_at c 63 long ∙ ap (λ (xs : List ℕ). xs ++ get_or c 63 0 ∷ drop 64 c) torn.before
    ∙ ap (λ (k : ℕ). take 63 file ++ k ∷ drop 64 c) (gate ∙ sym opens)
    ∙ ap (λ (xs : List ℕ). take 63 file ++ get_or file 63 0 ∷ xs) torn.after ∙ sym (split_at file 63 there))
torn_gate_by false file c is opens torn =
    inr (shut_ignored c (λ there. let no : eqb (get_or c 63 0) 101 ≡ true = grind (arith, nat_tests) in false≢true (sym is ∙ no)))

pub torn_gate : (file c : List ℕ) → IsGateOpen file → Torn 63 1 file c → (c ≡ file) ⊎ IsIgnored c
torn_gate file c opens torn = torn_gate_by (eqb (get_or c 63 0) 101) file c refl opens torn

front_gate : (file : List ℕ) (n : ℕ) → get_or file 63 0 ≡ 0 → get_or (take n file) 63 0 ≡ 0
front_gate file n zero = elim (cases_lt 63 n) [
  | inl there ↦ get_or-take n file 63 0 there ∙ zero
  | inr gone ↦ get_or_past (take n file) 63 0 (omega (arith, gone, length-take n file))
]

-- the front of a front
take_front : (file : List ℕ) (n : ℕ) → 64 ≤ length (take n file) → take 64 (take n file) ≡ take 64 file
take_front file n long = sym (take-append-le 64 (take n file) (drop n file) long) ∙ ap (take 64) (take-append-drop n file)

front_open : (file : List ℕ) (v : Version) → take 64 file ≡ label_front v ++ 101 ∷ [] → 64 ≤ length file → IsGateOpen file
front_open file v head long = sym (get_or-take 64 file 63 0 (omega arith)) ∙ ap (λ (xs : List ℕ). get_or xs 63 0) head

-- a gate that stands open, and not past the longest file
not_gated : (file : List ℕ) → IsGateOpen file → is_gated file ≡ false → length file ≤ MAX_DATABASE_LEN
not_gated file opens shut = elim (cases_lt 16777280 (length file)) [
  | inl long ↦
      let one : ltb 16777280 (length file) ≡ true = grind (arith, nat_tests) in
      let two : eqb (get_or file 63 0) 101 ≡ true = grind (arith, nat_tests) in
      absurd (false≢true (sym shut ∙ ap (λ (b : Bool). b && eqb (get_or file 63 0) 101) one ∙ two))
  | inr fits ↦ fits
]

-- a front of a file whose gate is zero
pub front_shut : (file c : List ℕ) → get_or file 63 0 ≡ 0 → CutShort 0 file c → get_or c 63 0 ≡ 0
front_shut file c zero (inl same) = ap (λ (xs : List ℕ). get_or xs 63 0) same ∙ zero
front_shut file c zero (inr short) = ap (λ (xs : List ℕ). get_or xs 63 0) short.1 ∙ front_gate file (length c) zero

-- and of one that is ignored, where its gate is not open past the longest one
pub front_ignored : (file c : List ℕ) → IsIgnored file → is_gated file ≡ false → CutShort 0 file c → IsIgnored c
front_ignored file c ignored shut (inl same) = subst IsIgnored (sym same) ignored
front_ignored file c ignored shut (inr short) = λ v image opens.
    let long = long_open c v image opens in
    let fits : length c ≤ length file = omega (arith, ap length short.1, length-take (length c) file) in
    let head : take 64 file ≡ take 64 c = sym
    (ap (take 64) short.1
    ∙ take_front file (length c) (let is : length c ≡ length (take (length c) file) = ap length short.1 in omega (arith, long, is))) in
    let gate : IsGateOpen file = front_open file v (head ∙ head_open c v image opens) (omega (arith, long, fits)) in
    ignored v (drop 64 file) (open_by_head file v opens.is_version (head ∙ head_open c v image opens) (not_gated file gate shut))
