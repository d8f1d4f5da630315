-- The kind of a call, where its fields were passed over.
use Rattle.std.proofs.Common.{◌≡◌, ℕ, zero, suc, false, eqb, [], length, Option, Some, None, Ok, Err, refl, ap, ◌∙◌}
use Rattle.std.specs.Option.{option_map}
use Rattle.std.proofs.Math.Dec.{eqb-suc-zero}
use Rattle.std.proofs.lemmas.List.{nil_from_length}
use Rattle.xdr_base.specs.declared.faults.XdrFault.{XdrFault}
use Rattle.xdr_base.specs.Reading.{Reading, word_at}
use Rattle.call_grammar.specs.Items.{Number}
use Rattle.call_grammar.specs.Reading.{◌>>=◌, rest_of, whole, xdr_item}
use Rattle.call_grammar.proofs.Again.{ended as read_whole}
use Rattle.call_grammar.proofs.Skipped.{no_read}

-- a call at the front: its number, and then its fields
abbrev pub front_by : {K C : Type 0} → (ℕ → Option K) → (K → Reading → Option (C × Reading)) → Reading → Option (C × Reading)
front_by numbered call_at from = xdr_item Number from >>= λ number. numbered number.0 >>= λ kind. call_at kind number.1

-- the call of a kind with the fields that stand there
abbrev pub made_by : {K C : Type 0} (V : K → Type 0) → ((k : K) → Reading → Option (V k × Reading)) → ((k : K) → V k → C) → K → Reading
    → Option (C × Reading)
made_by V fields make k s = fields k s >>= λ found. Some (make k found.0, found.1)

-- the kind of the call that stands there, and nothing behind it
abbrev pub kind_in : {K C : Type 0} → (C → K) → Option (C × Reading) → Option K
kind_in kind there = option_map kind (whole there)

pub no_number : {K C : Type 0} (numbered : ℕ → Option K) (call_at : K → Reading → Option (C × Reading)) (kind : C → K) (from : Reading)
    (e : XdrFault) → word_at from ≡ Err e → kind_in kind (front_by numbered call_at from) ≡ None
no_number numbered call_at kind from e h = rw h refl

pub no_kind : {K C : Type 0} (numbered : ℕ → Option K) (call_at : K → Reading → Option (C × Reading)) (kind : C → K) (from : Reading)
    (n : ℕ) (s : Reading) → word_at from ≡ Ok (n, s) → numbered n ≡ None → kind_in kind (front_by numbered call_at from) ≡ None
no_kind numbered call_at kind from n s h k = rw (h, k) refl

pub no_values : {K C : Type 0} (V : K → Type 0) (numbered : ℕ → Option K) (fields : (k : K) → Reading → Option (V k × Reading))
    (make : (k : K) → V k → C) (kind : C → K) (from : Reading) (n : ℕ) (s : Reading) (k : K)
    → word_at from ≡ Ok (n, s) → numbered n ≡ Some k → rest_of (fields k s) ≡ None
    → kind_in kind (front_by numbered (made_by V fields make) from) ≡ None
no_values V numbered fields make kind from n s k h is nothing = rw (h, is, no_read (fields k s) nothing) refl

abbrev changed : {A B : Type 0} → (A → B) → Option (A × Reading) → Option (B × Reading)
changed f read = read >>= λ y. Some (f y.0, y.1)

read_of : {A B : Type 0} (read : Option (A × Reading)) (left : Reading) (f : A → B) → rest_of read ≡ Some left
    → (x : A) × (changed f read ≡ Some (f x, left))
read_of {B = B} (Some x) left f e =
    let same : x.1 ≡ left = cc in (x.0, ap (λ (r : Reading). Some (f x.0, r)) same)
read_of None left f e = absurd cc

-- the call that stands there, where its fields were passed over
fronts : {K C : Type 0} (V : K → Type 0) (numbered : ℕ → Option K) (fields : (k : K) → Reading → Option (V k × Reading))
    (make : (k : K) → V k → C) (from : Reading) (n : ℕ) (s left : Reading) (k : K)
    → word_at from ≡ Ok (n, s) → numbered n ≡ Some k → rest_of (fields k s) ≡ Some left
    → (v : V k) × (front_by numbered (made_by V fields make) from ≡ Some (make k v, left))
fronts V numbered fields make from n s left k h is values =
    let v = read_of (fields k s) left (make k) values in (v.0, rw (h, is) v.1)

pub ended : {K C : Type 0} (V : K → Type 0) (numbered : ℕ → Option K) (fields : (k : K) → Reading → Option (V k × Reading))
    (make : (k : K) → V k → C) (kind : C → K) (from : Reading) (n : ℕ) (s left : Reading) (k : K) → ((v : V k) → kind (make k v) ≡ k)
    → word_at from ≡ Ok (n, s) → numbered n ≡ Some k → rest_of (fields k s) ≡ Some left → left.rest ≡ []
    → kind_in kind (front_by numbered (made_by V fields make) from) ≡ Some k
ended {K = K} {C = C} V numbered fields make kind from n s left k of_kind h is values nothing =
    let f = fronts V numbered fields make from n s left k h is values in
    let there = front_by numbered (made_by V fields make) from in
    let read = read_whole there (make k f.0) (record { behind = left; is = f.1; rest = nothing }) in
    ap (λ (c : Option C). option_map kind c) read ∙ ap (λ (x : K). Some x) (of_kind f.0)

not_zero : (n : ℕ) → (n ≡ 0 → ⊥) → eqb n 0 ≡ false
not_zero zero h = absurd (h refl)
not_zero (suc n) h = eqb-suc-zero n

pub not_ended : {K C : Type 0} (V : K → Type 0) (numbered : ℕ → Option K) (fields : (k : K) → Reading → Option (V k × Reading))
    (make : (k : K) → V k → C) (kind : C → K) (from : Reading) (n : ℕ) (s left : Reading) (k : K)
    → word_at from ≡ Ok (n, s) → numbered n ≡ Some k → rest_of (fields k s) ≡ Some left → (left.rest ≡ [] → ⊥)
    → kind_in kind (front_by numbered (made_by V fields make) from) ≡ None
not_ended V numbered fields make kind from n s left k h is values some =
    let f = fronts V numbered fields make from n s left k h is values in
    let test : eqb (length left.rest) 0 ≡ false = not_zero (length left.rest) (λ zero. some (nil_from_length left.rest zero)) in
    rw (f.1, test) refl
