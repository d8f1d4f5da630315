-- The id that a word means.
use Rattle.std.proofs.Common.{◌≡◌, ℕ, ℤ, pos, Bool, true, false, ◌&&◌, not, if◌then◌else◌, List, Option, Some, None, Result, Ok, Err, codes, refl, subst}
use Rattle.std.specs.Ordering.{int_eq}
use Rattle.std.specs.Str.{bytes_eq}
use Rattle.script_words.specs.Numbers.{signed_of}
use Rattle.io_base.specs.declared.links.Exchange.{Exchange}
use Rattle.tool_base.specs.Course.{Asker, Course}
use Rattle.tool_base.specs.Running.{IsQuiet, Ran}
use Rattle.tool_base.specs.declared.stops.Refusal.TheVariants.{Rule}
use Rattle.tool_base.specs.declared.stops.Stop.{Stop}
use Rattle.tool_base.specs.declared.stops.Stop.TheVariants.{Refused}
use Rattle.tool_base.proofs.Walking.{ran_is}
use Rattle.pts_tool.specs.Names.{id_or, known_id, name_id, the_id}

quiet_if : (b : Bool) (id : ℤ) → IsQuiet {A = ℤ} (if b then Err (Refused (Rule 267268)) else Ok id)
quiet_if true id = tt
quiet_if false id = tt

-- no sink fails where a name is known, or is not
pub known_quiet : (name : List ℕ) (id : ℤ) → IsQuiet (known_id name id)
known_quiet name id = quiet_if (int_eq id (pos 32766) && not (bytes_eq name (codes "anonymous"))) id

-- a word that is a number
pub ran_number : (word : List ℕ) (id : ℤ) (s : Asker) (e : List Exchange) (r : Result ℤ Stop) → Some id ≡ signed_of word → r ≡ Ok id
    → Ran (the_id word) s s e e r
unfolding the_id
ran_number word id s e r is gave = subst (λ (o : Option ℤ). Ran (id_or o word) s s e e r) is (ran_is s e (Ok id) r tt gave)

-- a word that is a name
pub ran_name : (word : List ℕ) (s s1 : Asker) (e e1 : List Exchange) (r : Result ℤ Stop) → None ≡ signed_of word
    → Ran (name_id word) s s1 e e1 r → Ran (the_id word) s s1 e e1 r
unfolding the_id
ran_name word s s1 e e1 r is ran = subst (λ (o : Option ℤ). Ran (id_or o word) s s1 e e1 r) is ran
