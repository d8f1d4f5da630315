-- Fields that are read one after the other are spelled so.
use Rattle.std.proofs.lemmas.List.{append-nil, length-append}
use Rattle.std.specs.Prelude.{IfOk}
use Rattle.std.proofs.Common.{◌≤◌, ◌-◌, length, subst, Result, Ok, Err, arith, ◌≡◌, List, [], ◌∷◌, ◌++◌, ℕ, refl, sym, ap, ◌∙◌, append_assoc}
use Rattle.std.specs.List.{AllByRecursion}
use Rattle.xdr_base.specs.Reading.{Reading}
use Rattle.xdr_base.specs.Spelling.{word}
use Rattle.ubik_calls.specs.declared.frames.Frame.{Frame}
use Rattle.ubik_calls.specs.declared.frames.Frame.TheVariants as frame
use Rattle.ubik_calls.specs.declared.frames.FrameFault.{FrameFault}
use Rattle.ubik_calls.specs.declared.replies.Reply.{Reply}
use Rattle.ubik_calls.specs.declared.replies.Reply.TheVariants as reply
use Rattle.ubik_calls.specs.Fields.{Field, Number, AsTheyAre, IsBounded, Took, spelled, field_spelling}
use Rattle.ubik_calls.specs.Reading.{IsBehind, IsReplyBehind, reply_tag, behind_tag}
use Rattle.ubik_calls.specs.WireGrammar.{reply_fields, frame_fields, behind_length, spelling, HasSpelling}
use Rattle.ubik_calls.proofs.Written.{spelled-append}

all_bounded : (xs ys : List Field) → AllByRecursion IsBounded xs → AllByRecursion IsBounded ys → AllByRecursion IsBounded (xs ++ ys)
all_bounded [] ys p q = q
all_bounded (x ∷ xs) ys p q = (p.0, all_bounded xs ys p.1 q)

-- some fields, and then some more
pub took_then : {a b c : Reading} {xs ys : List Field} → Took a xs b → Took b ys c → Took a (xs ++ ys) c
took_then {b = b} {c = c} {xs = xs} {ys = ys} p q = record {
  text_is = p.text_is ∙ ap (λ (t : List ℕ). spelled xs ++ t) q.text_is ∙ sym (append_assoc (spelled xs) (spelled ys) c.rest) ∙ ap (λ (t : List ℕ). t ++ c.rest) (sym (spelled-append xs ys));
  bounded = all_bounded xs ys p.bounded q.bounded;
}

-- end of a reader's text
pub took_nothing : (from : Reading) → Took from [] from
unfolding spelled
took_nothing from = record { text_is = refl; bounded = tt }

-- a frame of whose fields some were taken, and the others are what is left
pub behind_kind : (from to : Reading) (kind : ℕ) (fs gs : List Field) (f : Frame) → Took from fs to → to.rest ≡ spelled gs → AllByRecursion IsBounded gs → frame_fields f ≡ Number kind ∷ (fs ++ gs) → IsBehind from kind f
behind_kind from to kind fs gs f took left fits e = record {
  text_is = ap (λ (t : List ℕ). spelled (Number kind ∷ []) ++ t) (took.text_is ∙ ap (λ (t : List ℕ). spelled fs ++ t) left ∙ sym (spelled-append fs gs)) ∙ sym (spelled-append (Number kind ∷ []) (fs ++ gs)) ∙ ap spelled (sym e);
  bounded = subst (λ (xs : List Field). AllByRecursion IsBounded xs) (sym e) (tt, all_bounded fs gs took.bounded fits);
}

-- nothing is left, or bytes as they are
pub behind_all : (from to : Reading) (kind : ℕ) (fs : List Field) (f : Frame) → Took from fs to → to.rest ≡ [] → frame_fields f ≡ Number kind ∷ (fs ++ []) → IsBehind from kind f
unfolding spelled
behind_all from to kind fs f took left e = behind_kind from to kind fs [] f took left tt e

pub behind_rest : (from to : Reading) (kind : ℕ) (fs : List Field) (bytes : List ℕ) (f : Frame) → Took from fs to → to.rest ≡ bytes → frame_fields f ≡ Number kind ∷ (fs ++ AsTheyAre bytes ∷ []) → IsBehind from kind f
unfolding spelled field_spelling
behind_rest from to kind fs bytes f took left e = behind_kind from to kind fs (AsTheyAre bytes ∷ []) f took (left ∙ sym (append-nil bytes)) (tt, tt) e

-- the tag of a reply and what stands behind it
pub tag_first : (r : Reply) (tag : ℕ) → reply_tag r ≡ tag → reply_fields r ≡ Number tag ∷ behind_tag r
tag_first (reply.Ok answer) tag e = ap (λ (n : ℕ). Number n ∷ AsTheyAre answer ∷ []) e
tag_first (reply.Rule number) tag e = ap (λ (n : ℕ). Number n ∷ behind_tag (reply.Rule number)) e
tag_first (reply.NoQuorum now until phase applied) tag e = ap (λ (n : ℕ). Number n ∷ behind_tag (reply.NoQuorum now until phase applied)) e
tag_first (reply.NotSync host heard) tag e = ap (λ (n : ℕ). Number n ∷ behind_tag (reply.NotSync host heard)) e
tag_first (reply.LineFull holder) tag e = ap (λ (n : ℕ). Number n ∷ behind_tag (reply.LineFull holder)) e
tag_first (reply.TooLarge bytes) tag e = ap (λ (n : ℕ). Number n ∷ behind_tag (reply.TooLarge bytes)) e
tag_first reply.Malformed tag e = ap (λ (n : ℕ). Number n ∷ []) e
tag_first reply.DiskFault tag e = ap (λ (n : ℕ). Number n ∷ []) e
tag_first reply.NoMemory tag e = ap (λ (n : ℕ). Number n ∷ []) e
tag_first (reply.BadRecord place) tag e = ap (λ (n : ℕ). Number n ∷ behind_tag (reply.BadRecord place)) e

-- the whole frame
pub whole : (bytes rest : List ℕ) (from : Reading) (kind : ℕ) (f : Frame) → bytes ≡ word (length rest) ++ rest → length rest ≤ 2097148 → rest ≡ spelled (Number kind ∷ []) ++ from.rest → IsBehind from kind f → HasSpelling f × (bytes ≡ spelling f)
whole bytes rest from kind f said short e behind =
    let all : rest ≡ behind_length f = e ∙ behind.text_is in
    (record { bounded = behind.bounded; bound = subst (λ (t : List ℕ). length t ≤ 2097148) all short }, said ∙ ap (λ (t : List ℕ). word (length t) ++ t) all)

-- a reply behind its tag
pub reply_all : (from to : Reading) (number tag : ℕ) (r : Reply) → Took from (behind_tag r) to → to.rest ≡ [] → reply_tag r ≡ tag → IsReplyBehind from number tag (frame.Reply number r)
reply_all from to number tag r took left e =
    let first = tag_first r tag e in
    let head : List Field = Number 2 ∷ Number number ∷ Number tag ∷ [] in
    let rest : from.rest ≡ spelled (behind_tag r) = took.text_is ∙ ap (λ (t : List ℕ). spelled (behind_tag r) ++ t) left ∙ append-nil (spelled (behind_tag r)) in
    record {
      text_is = ap (λ (t : List ℕ). spelled head ++ t) rest ∙ sym (spelled-append head (behind_tag r)) ∙ ap (λ (t : List Field). spelled (Number 2 ∷ Number number ∷ t)) (sym first);
      bounded = (tt, (tt, subst (λ (xs : List Field). AllByRecursion IsBounded xs) (sym first) (tt, took.bounded)));
    }

pub reply_whole : (from to : Reading) (number tag : ℕ) (r : Result Frame FrameFault) → Took from (Number number ∷ Number tag ∷ []) to → IfOk r (λ f. IsReplyBehind to number tag f) → IfOk r (λ f. IsBehind from 2 f)
reply_whole from to number tag (Ok f) took behind =
    let some : List Field = Number number ∷ Number tag ∷ [] in
    record {
      text_is = ap (λ (t : List ℕ). spelled (Number 2 ∷ []) ++ t) took.text_is ∙ sym (append_assoc (spelled (Number 2 ∷ [])) (spelled some) to.rest) ∙ ap (λ (t : List ℕ). t ++ to.rest) (sym (spelled-append (Number 2 ∷ []) some)) ∙ behind.text_is;
      bounded = behind.bounded;
    }
reply_whole from to number tag (Err e) took behind = tt

pub length_said : (bytes : List ℕ) (from : Reading) (said : ℕ) → bytes ≡ spelled (Number said ∷ []) ++ from.rest → said ≡ length bytes - 4 → bytes ≡ word (length from.rest) ++ from.rest
unfolding spelled field_spelling
length_said bytes from said e len =
    let same : said ≡ length from.rest = omega (arith, ap length e, length-append (word said) from.rest) in
    e ∙ ap (λ (n : ℕ). word n ++ from.rest) same

pub whole_if : (bytes rest : List ℕ) (from : Reading) (kind : ℕ) (r : Result Frame FrameFault) → bytes ≡ word (length rest) ++ rest → length rest ≤ 2097148 → rest ≡ spelled (Number kind ∷ []) ++ from.rest
    → IfOk r (λ f. IsBehind from kind f) → IfOk r (λ f. HasSpelling f × (bytes ≡ spelling f))
whole_if bytes rest from kind (Ok f) said short e behind = whole bytes rest from kind f said short e behind
whole_if bytes rest from kind (Err fault) said short e behind = tt
