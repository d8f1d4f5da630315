-- Items, worked through one after the other.
use Rattle.std.specs.Prelude.{List, [], ◌∷◌}
use Rattle.tool_base.specs.Course.{◌>>=◌, Course, gives}

abbrev pub each : {X : Type 0} → (X → Course (Unit {0})) → List X → Course (Unit {0})
each do_one [] = gives tt
each do_one (x ∷ xs) = do_one x >>= λ done. each do_one xs
