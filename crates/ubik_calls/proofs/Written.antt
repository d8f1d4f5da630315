-- Fields that are written one after the other.
use Rattle.std.proofs.Common.{◌≡◌, ℕ, List, [], ◌∷◌, ◌++◌, Result, Ok, Err, refl, sym, ap, ◌∙◌, append_assoc}
use Rattle.std.specs.Prelude.{OnOk}
use Rattle.std.proofs.lemmas.List.{append-nil}
use Rattle.ubik_calls.specs.Fields.{Field, AsTheyAre, Wrote, spelled, field_spelling}

pub spelled-append : (xs ys : List Field) → spelled (xs ++ ys) ≡ spelled xs ++ spelled ys
unfolding spelled
spelled-append [] ys = refl
spelled-append (x ∷ xs) ys = ap (λ (t : List ℕ). field_spelling x ++ t) (spelled-append xs ys) ∙ sym (append_assoc (field_spelling x) (spelled xs) (spelled ys))

-- some fields, and then some more
pub wrote_then : {a b c : List ℕ} {xs ys : List Field} → Wrote a xs b → Wrote b ys c → Wrote a (xs ++ ys) c
wrote_then {a = a} {b = b} {xs = xs} {ys = ys} p q = record {
  text_is = q.text_is ∙ ap (λ (t : List ℕ). t ++ spelled ys) p.text_is ∙ append_assoc a (spelled xs) (spelled ys) ∙ ap (λ (t : List ℕ). a ++ t) (sym (spelled-append xs ys));
}

-- the same before a last call that may fail
pub wrote_last : {A E : Type 0} (a b c : List ℕ) (xs ys : List Field) (r : Result A E) → Wrote a xs b → OnOk r (Wrote b ys c) → OnOk r (Wrote a (xs ++ ys) c)
wrote_last a b c xs ys (Ok x) p q = wrote_then p q
wrote_last a b c xs ys (Err e) p q = tt

-- bytes that go as they are, and none
pub wrote_rest : (a bytes : List ℕ) → Wrote a (AsTheyAre bytes ∷ []) (a ++ bytes)
unfolding spelled field_spelling
wrote_rest a bytes = record { text_is = ap (λ (t : List ℕ). a ++ t) (sym (append-nil bytes)) }

pub wrote_no_more : {A E : Type 0} (a b : List ℕ) (xs : List Field) (r : Result A E) → OnOk r (Wrote a xs b) → OnOk r (Wrote a xs (b ++ []))
wrote_no_more a b xs (Ok x) p = record { text_is = append-nil b ∙ p.text_is }
wrote_no_more a b xs (Err e) p = tt

-- bytes as they are behind a last call that may fail
pub wrote_before_rest : {A E : Type 0} (a b : List ℕ) (xs : List Field) (bytes : List ℕ) (r : Result A E) → OnOk r (Wrote a xs b) → OnOk r (Wrote a (xs ++ AsTheyAre bytes ∷ []) (b ++ bytes))
wrote_before_rest a b xs bytes (Ok x) p = wrote_then p (wrote_rest b bytes)
wrote_before_rest a b xs bytes (Err e) p = tt
