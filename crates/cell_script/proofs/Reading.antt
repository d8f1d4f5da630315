-- How the reading of a line ends.
use Rattle.std.proofs.Common.{◌≡◌, ◌≢◌, ◌≤◌, ◌+◌, ℕ, Bool, true, false, List, [], ◌∷◌, ◌++◌, length, Option, Some, None, IfSome, refl, subst, arith, append-nil, append_assoc}
use Rattle.std.proofs.lemmas.List.Elements.{All-push}
use Rattle.std.proofs.lemmas.List.{length_push}
use Rattle.cell_script.specs.declared.readers.LineEnd.{LineEnd}
use Rattle.cell_script.specs.declared.readers.LineEnd.TheVariants.{Line, TooLong, End, Failed}
use Rattle.cell_script.specs.Lines.{HasNoLf, ReadsLine, TakesPart}
use Rattle.cell_script.specs.LineSteps.{EndsLine, Extends, HasRead}

-- the line stands first in the text where it ends
line_ends : (limit : ℕ) (ended : Bool) (text rest : List ℕ) (after : Option (List ℕ)) (line : List ℕ) →
    HasNoLf line → text ≡ line ++ rest → length line ≤ limit → EndsLine ended rest after line → ReadsLine limit Line text after line ended
line_ends limit false text rest after line no_lf read bound t =
    record { rest = t.rest; no_lf = no_lf; bound = bound; read = cc; left = t.left }
line_ends limit true text rest after line no_lf read bound t =
    let all : line ++ [] ≡ line = append-nil line in
    let whole : text ≡ line = cc in
    record { rest = []; no_lf = no_lf; bound = bound; read = (whole, refl, t.2); left = t.1 }

ends_at : (limit : ℕ) (end : LineEnd) (ended : Bool) (text rest : List ℕ) (after : Option (List ℕ)) (old new : List ℕ) →
    HasNoLf old → text ≡ old ++ rest → length old ≤ limit → Extends limit (Some end) rest after old new ended → ReadsLine limit end text after new ended
ends_at limit Line ended text rest after old new no_lf read bound e =
    rw (e.0) (line_ends limit ended text rest after old no_lf read bound e.1)
ends_at limit TooLong ended text rest after old new no_lf read bound (going, e) =
    let long : length (old ++ e.byte ∷ []) ≡ limit + 1 = omega (arith, length_push old e.byte, e.full) in
    let joined : (old ++ e.byte ∷ []) ++ e.taken.rest ≡ old ++ e.byte ∷ e.taken.rest = append_assoc old (e.byte ∷ []) e.taken.rest in
    let taken : rest ≡ e.byte ∷ e.taken.rest = e.taken.read in
    let grown : TakesPart text after = record {
      part = old ++ e.byte ∷ [];
      rest = e.taken.rest;
      no_lf = All-push (λ b. b ≢ 10) old e.byte no_lf e.no_lf;
      read = cc;
      left = e.taken.left;
    } in
    (going, grown, long)
ends_at limit End ended text rest after old new no_lf read bound e =
    let none : text ≡ [] = rw (read, e.1, e.2) refl in (e.0, none, e.3)
ends_at limit Failed ended text rest after old new no_lf read bound e =
    (e.0, record { part = old; rest = rest; no_lf = no_lf; read = read; left = e.1 }, bound)

-- the end of a line, from what was read of it
pub ReadsLine_ends : (limit : ℕ) (first middle after : Option (List ℕ)) (end : LineEnd) (old new : List ℕ) (ended : Bool) →
    IfSome first (λ text. HasRead text middle old) → length old ≤ limit →
    IfSome middle (λ text. Extends limit (Some end) text after old new ended) →
    IfSome first (λ text. ReadsLine limit end text after new ended)
ReadsLine_ends limit None middle after end old new ended part bound e = tt
ReadsLine_ends limit (Some text) middle after end old new ended part bound e =
    let last : Extends limit (Some end) part.rest after old new ended =
    subst (λ (m : Option (List ℕ)). IfSome m (λ text. Extends limit (Some end) text after old new ended)) part.left e in
    ends_at limit end ended text part.rest after old new part.no_lf part.read bound last
