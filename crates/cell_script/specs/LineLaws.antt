-- Laws of the lines of a text.
use Rattle.std.specs.Prelude.{◌≡◌, ◌≢◌, if◌then◌else◌, ℕ, Bool, List, [], ◌∷◌, ◌++◌, refl}
use Rattle.std.specs.List.{All, flat_map, onto_first}
use Rattle.std.proofs.Common.{ap, ◌∙◌, append_assoc}
use Rattle.std.proofs.lemmas.Bool.{ne_eqb}
use Rattle.std.proofs.lemmas.List.Elements.{All-head, All-tail}
use Rattle.cell_script.specs.Lines.{HasNoLf, lines_of, whole_lines, longer_first}

-- the text of these lines, each ended by an LF
abbrev pub text_of : List (List ℕ) → List ℕ
text_of lines = flat_map (λ line. line ++ 10 ∷ []) lines

-- the last line of a text that lacks its LF, where there is one
abbrev pub last_line : List ℕ → List (List ℕ)
last_line [] = []
last_line (b ∷ part) = (b ∷ part) ∷ []

-- a text of whole lines and a part of one has these lines
abbrev pub HasTheseLines : Type 0
HasTheseLines = (lines : List (List ℕ)) (part : List ℕ) → All HasNoLf lines → HasNoLf part →
    lines_of (text_of lines ++ part) ≡ lines ++ last_line part

-- and the whole lines are all of it but the part
abbrev pub HasTheseWholeLines : Type 0
HasTheseWholeLines = (lines : List (List ℕ)) (part : List ℕ) → All HasNoLf lines → HasNoLf part →
    whole_lines (text_of lines ++ part) ≡ lines

-- no byte of a line with one more byte in front is an LF
no_lf-head : (b : ℕ) (bytes : List ℕ) → HasNoLf (b ∷ bytes) → b ≢ 10
no_lf-head b bytes none = All-head (λ c. c ≢ 10) b bytes none

no_lf-tail : (b : ℕ) (bytes : List ℕ) → HasNoLf (b ∷ bytes) → HasNoLf bytes
no_lf-tail b bytes none = All-tail (λ c. c ≢ 10) b bytes none

-- a byte other than LF belongs to the first line
lines_of-cons : (b : ℕ) (bytes : List ℕ) → b ≢ 10 → lines_of (b ∷ bytes) ≡ onto_first b (lines_of bytes)
lines_of-cons b bytes other =
    ap (λ (lf : Bool). if lf then [] ∷ lines_of bytes else onto_first b (lines_of bytes)) (ne_eqb b 10 other)

whole_lines-cons : (b : ℕ) (bytes : List ℕ) → b ≢ 10 → whole_lines (b ∷ bytes) ≡ longer_first b (whole_lines bytes)
whole_lines-cons b bytes other =
    ap (λ (lf : Bool). if lf then [] ∷ whole_lines bytes else longer_first b (whole_lines bytes)) (ne_eqb b 10 other)

-- a line that an LF ends is the first one
pub lines_of-line : (line rest : List ℕ) → HasNoLf line → lines_of (line ++ 10 ∷ rest) ≡ line ∷ lines_of rest
lines_of-line [] rest none = refl
lines_of-line (b ∷ line) rest none =
    lines_of-cons b (line ++ 10 ∷ rest) (no_lf-head b line none)
    ∙ ap (λ lines. onto_first b lines) (lines_of-line line rest (no_lf-tail b line none))

pub whole_lines-line : (line rest : List ℕ) → HasNoLf line → whole_lines (line ++ 10 ∷ rest) ≡ line ∷ whole_lines rest
whole_lines-line [] rest none = refl
whole_lines-line (b ∷ line) rest none =
    whole_lines-cons b (line ++ 10 ∷ rest) (no_lf-head b line none)
    ∙ ap (λ lines. longer_first b lines) (whole_lines-line line rest (no_lf-tail b line none))

-- a part that no LF ends is the only line
pub lines_of-part : (part : List ℕ) → HasNoLf part → lines_of part ≡ last_line part
lines_of-part [] none = refl
lines_of-part (b ∷ []) none = lines_of-cons b [] (no_lf-head b [] none)
lines_of-part (b ∷ c ∷ part) none =
    lines_of-cons b (c ∷ part) (no_lf-head b (c ∷ part) none)
    ∙ ap (λ lines. onto_first b lines) (lines_of-part (c ∷ part) (no_lf-tail b (c ∷ part) none))

-- and no whole line
pub whole_lines-part : (part : List ℕ) → HasNoLf part → whole_lines part ≡ []
whole_lines-part [] none = refl
whole_lines-part (b ∷ part) none =
    whole_lines-cons b part (no_lf-head b part none)
    ∙ ap (λ lines. longer_first b lines) (whole_lines-part part (no_lf-tail b part none))

-- a line, and the lines after it, that a text has from a front of a line on
pub record BeginsLine (text front : List ℕ) : Type 0 where
  pub more : List ℕ
  pub later : List (List ℕ)
  pub lines : lines_of text ≡ (front ++ more) ∷ later

first_of : (b : ℕ) (lines : List (List ℕ)) → (more : List ℕ) × (later : List (List ℕ)) × (onto_first b lines ≡ (b ∷ more) ∷ later)
first_of b [] = ([], [], refl)
first_of b (line ∷ lines) = (line, lines, refl)

-- bytes without an LF stand first in the first line
pub lines_of-front : (b : ℕ) (front rest : List ℕ) → HasNoLf (b ∷ front) → BeginsLine (b ∷ (front ++ rest)) (b ∷ front)
lines_of-front b [] rest none =
    let first = first_of b (lines_of rest) in
    record { more = first.0; later = first.1; lines = lines_of-cons b rest (no_lf-head b [] none) ∙ first.2 }
lines_of-front b (c ∷ front) rest none =
    let others = lines_of-front c front rest (no_lf-tail b (c ∷ front) none) in
    record {
      more = others.more;
      later = others.later;
      lines = lines_of-cons b (c ∷ (front ++ rest)) (no_lf-head b (c ∷ front) none) ∙ ap (onto_first b) others.lines;
    }

-- a text of whole lines before another text
text_of-cons : (line : List ℕ) (lines : List (List ℕ)) (part : List ℕ) →
    text_of (line ∷ lines) ++ part ≡ line ++ 10 ∷ (text_of lines ++ part)
text_of-cons line lines part =
    append_assoc (line ++ 10 ∷ []) (text_of lines) part ∙ append_assoc line (10 ∷ []) (text_of lines ++ part)

-- whole lines before a text are its first lines
pub lines_of-before : (lines : List (List ℕ)) (text : List ℕ) → All HasNoLf lines → lines_of (text_of lines ++ text) ≡ lines ++ lines_of text
lines_of-before [] text no_lfs = refl
lines_of-before (line ∷ lines) text no_lfs =
    ap lines_of (text_of-cons line lines text)
    ∙ lines_of-line line (text_of lines ++ text) (All-head HasNoLf line lines no_lfs)
    ∙ ap (λ more. line ∷ more) (lines_of-before lines text (All-tail HasNoLf line lines no_lfs))

pub lines_of-text_of : HasTheseLines
lines_of-text_of [] part no_lfs none = lines_of-part part none
lines_of-text_of (line ∷ lines) part no_lfs none =
    ap lines_of (text_of-cons line lines part)
    ∙ lines_of-line line (text_of lines ++ part) (All-head HasNoLf line lines no_lfs)
    ∙ ap (λ more. line ∷ more) (lines_of-text_of lines part (All-tail HasNoLf line lines no_lfs) none)

pub whole_lines-text_of : HasTheseWholeLines
whole_lines-text_of [] part no_lfs none = whole_lines-part part none
whole_lines-text_of (line ∷ lines) part no_lfs none =
    ap whole_lines (text_of-cons line lines part)
    ∙ whole_lines-line line (text_of lines ++ part) (All-head HasNoLf line lines no_lfs)
    ∙ ap (λ more. line ∷ more) (whole_lines-text_of lines part (All-tail HasNoLf line lines no_lfs) none)
