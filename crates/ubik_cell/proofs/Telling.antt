-- What one more line adds to what is told.
use Rattle.std.proofs.Common.{◌≡◌, ℕ, List, [], ◌∷◌, ◌++◌, Option, Some, None, IfSome, refl, ap, ◌∙◌}
use Rattle.cell_runs.specs.Script.{AreWhole, IsWhole, LineRead, Told, first_told, line_result, told, told_after, told_from, told_with}
use Rattle.cell_runs.specs.ScriptDatabase.{Databases}
use Rattle.ubik_cell.specs.Runs.{read_lines}

told_from-push : (dbs : Databases) (t : Told) (readings : List LineRead) (r : LineRead)
    → told_from dbs t (readings ++ r ∷ []) ≡ told_after dbs (told_from dbs t readings) r (told_from dbs t readings).ended
told_from-push dbs t [] r = refl
told_from-push dbs t (q ∷ readings) r = told_from-push dbs (told_after dbs t q t.ended) readings r

-- what is told after one more line, where the script has not ended before
pub told-push : (dbs : Databases) (readings : List LineRead) (r : LineRead) → (told dbs readings).ended ≡ None
    → told dbs (readings ++ r ∷ []) ≡ told_with dbs (told dbs readings) (line_result dbs (told dbs readings).stage r)
told-push dbs readings r good = told_from-push dbs first_told readings r ∙ ap (told_after dbs (told dbs readings) r) good

pub read_lines-push : (readings : List LineRead) (r : LineRead) → read_lines (readings ++ r ∷ []) ≡ read_lines readings ++ r.line ∷ []
read_lines-push [] r = refl
read_lines-push (q ∷ readings) r = ap (λ (lines : List (List ℕ)). q.line ∷ lines) (read_lines-push readings r)

pub whole-push : (readings : List LineRead) (r : LineRead) → AreWhole readings → IsWhole r.choices → AreWhole (readings ++ r ∷ [])
whole-push [] r whole one = (one, tt)
whole-push (q ∷ readings) r whole one = (whole.0, whole-push readings r whole.1 one)

-- from a fact of what is there to another
pub over_told : {X : Type 0} (P Q : X → Type 0) (o : Option X) → IfSome o P → ((x : X) → P x → Q x) → IfSome o Q
over_told P Q None is goes = tt
over_told P Q (Some x) is goes = goes x is

pub same_some : {X : Type 0} {a b : X} → Some a ≡ Some b → a ≡ b
same_some e = cc
